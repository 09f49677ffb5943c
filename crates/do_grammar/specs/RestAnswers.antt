-- What an answer of a reader, with the bytes behind a spelling, says: which step of reading it
-- gives, and what it tells of the bytes.
use Rattle.std.specs.{Prelude.{◌≡◌, ℕ, ◌-◌, ◌≤◌, List, length, Result, Ok, Err}, Borrow.Bor}
use Rattle.do_grammar.specs.declared.fault.ReadFault.{ReadFault, TheVariants.{Memory, Short, Bad}}
use Rattle.do_grammar.specs.Reader.{Stop, no_kind, short, bad}
use Rattle.do_grammar.specs.Grammar.{IsProperFront, IsFirstBad, Takes}

-- reading stopped so, unless memory ran out
abbrev pub Fails : {Y : Type 0} → ReadFault → Result Y (Stop (Unit {0})) → Type 0
Fails Memory read = Unit {0}
Fails Short read = read ≡ Err short
Fails (Bad left) read = read ≡ Err (bad no_kind left)

-- unless memory ran out, what was returned, seen by view, is what reading gives
abbrev pub Gives : {X Y : Type 0} → (X → Y) → Result X ReadFault → Result Y (Stop (Unit {0}))
    → Type 0
Gives view (Ok x) read = read ≡ Ok (view x)
Gives view (Err e) read = Fails e read

-- what an answer, whose value is seen by view, tells of the bytes
abbrev pub TellsRest : {X A : Type 0} → (List ℕ → A → Type 0) → (X → A) → List ℕ
    → Result (X × Bor (List ℕ)) ReadFault → Type 0
-- a spelling of the value begins the bytes, and the rest stands behind it
TellsRest G view bytes (Ok x) = Takes G bytes (view x.0) x.1.now
-- the bytes are a proper front of a spelling
TellsRest G view bytes (Err Short) = IsProperFront G bytes
-- the byte from which on so many are left is the first with which no spelling goes on
TellsRest G view bytes (Err (Bad left)) =
    (left ≤ length bytes) × IsFirstBad G bytes (length bytes - left)
-- where memory ran out nothing is told
TellsRest G view bytes (Err Memory) = Unit {0}

-- unless memory ran out, the answer is this value and this rest
abbrev pub FindsRest : {X A : Type 0} → (X → A) → A → List ℕ → Result (X × Bor (List ℕ)) ReadFault
    → Type 0
FindsRest view v rest (Ok x) = (view x.0 ≡ v) × (x.1.now ≡ rest)
FindsRest view v rest (Err Memory) = Unit {0}
FindsRest view v rest (Err _) = ⊥
