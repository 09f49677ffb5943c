-- What an answer tells of the bytes, by a grammar.
use Rattle.std.specs.Prelude.{◌≡◌, ℕ, ◌≤◌, List, length, take, Result, Ok, Err}
use Rattle.do_grammar.specs.declared.fault.CodeFault.{CodeFault, TheVariants.{Bad, Short, Memory}}
use Rattle.do_grammar.specs.Grammar.{IsProperFront, IsFirstBad}

-- a value with the length of its spelling, which begins the bytes
abbrev pub Tells : {X A : Type 0} → (List ℕ → A → Type 0) → (X → A) → List ℕ
    → Result (X × ℕ) CodeFault → Type 0
Tells G view bytes (Ok x) = (x.1 ≤ length bytes) × G (take x.1 bytes) (view x.0)
Tells G view bytes (Err Short) = IsProperFront G bytes
Tells G view bytes (Err (Bad place)) = IsFirstBad G bytes place
Tells G view bytes (Err Memory) = Unit {0}

-- unless memory ran out, the answer is this value and length
abbrev pub Finds : {X A : Type 0} → (X → A) → A → ℕ → Result (X × ℕ) CodeFault → Type 0
Finds view v len (Ok x) = (view x.0 ≡ v) × (x.1 ≡ len)
Finds view v len (Err Memory) = Unit {0}
Finds view v len (Err _) = ⊥
