-- Readings that stop at a fault.
use Rattle.std.specs.Prelude.{◌≡◌, Result, Ok, Err}
use Rattle.do_script.specs.declared.fault.{Kind.Kind, LineFault.LineFault}
use Rattle.do_script.specs.declared.fault.LineFault.TheVariants.{Bad, Memory}

infixl 10 ◌>>=◌
-- the first fault of two readings, or what the second gives of the first's value
abbrev pub ◌>>=◌ : {A B : Type 0} → Result A Kind → (A → Result B Kind) → Result B Kind
(Ok x) >>= f = f x
(Err k) >>= f = Err k

-- what was returned, seen by view, is this reading
abbrev pub Gives : {X A : Type 0} → (X → A) → Result X Kind → Result A Kind → Type 0
Gives view (Ok x) reading = reading ≡ Ok (view x)
Gives view (Err k) reading = reading ≡ Err k

-- the same, unless memory ran out
abbrev pub Reads : {X A : Type 0} → (X → A) → Result X LineFault → Result A Kind → Type 0
Reads view (Ok x) reading = reading ≡ Ok (view x)
Reads view (Err (Bad k)) reading = reading ≡ Err k
Reads view (Err Memory) reading = Unit {0}
