-- What a function returned is what reading gives.
use Rattle.do_sig.specs.declared.fault.Stop as code
use Rattle.std.specs.Prelude.{◌≡◌, Result, Ok, Err}
use Rattle.do_sig.specs.declared.fault.Kind.{Kind, TheVariants.{NoSelf, TooManyArgs}}
use Rattle.do_sig.specs.declared.fault.Stop.TheVariants.{Memory, Short, Bad}
use Rattle.do_grammar.specs.Reader.{Stop, short, bad}

-- reading stopped so, unless memory ran out
abbrev pub Fails : {Y : Type 0} → code.Stop → Result Y (Stop Kind) → Type 0
Fails Memory read = Unit {0}
Fails Short read = read ≡ Err short
Fails (Bad k left) read = read ≡ Err (bad k left)

-- unless memory ran out, what was returned, seen by view, is what reading gives
abbrev pub Gives : {X Y : Type 0} → (X → Y) → Result X code.Stop → Result Y (Stop Kind) → Type 0
Gives view (Ok x) read = read ≡ Ok (view x)
Gives view (Err e) read = Fails e read

-- a kind of fault that an encoding by itself can have
abbrev pub IsEarlyKind : Kind → Type 0
IsEarlyKind NoSelf = ⊥
IsEarlyKind TooManyArgs = ⊥
IsEarlyKind _ = Unit {0}

-- a stop that an encoding by itself can have
abbrev pub IsEarlyStop : code.Stop → Type 0
IsEarlyStop (Bad k left) = IsEarlyKind k
IsEarlyStop _ = Unit {0}

-- an answer that an encoding by itself can have
abbrev pub IsEarly : {X : Type 0} → Result X code.Stop → Type 0
IsEarly (Ok x) = Unit {0}
IsEarly (Err e) = IsEarlyStop e
