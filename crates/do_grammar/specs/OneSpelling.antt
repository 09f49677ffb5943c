-- Grammars that are given by one spelling of each value.
use Rattle.std.specs.Prelude.{◌≡◌, ℕ, zero, suc, ◌≤◌, ◌∷◌, ◌++◌, Bool, List, [], length, Ok}
use Rattle.do_grammar.specs.Reader.{Reader, no_kind, ◌>>=◌, and_then, mapped, byte_of}
use Rattle.do_grammar.specs.Num.{num, num_at}

-- a value with this spelling, of which a condition holds
pub record Spelled {A : Type 0} (spelling : A → List ℕ) (Fits : A
    → Type 0) (text : List ℕ) (x : A) : Type 0 where
  pub bytes : text ≡ spelling x
  pub fits : Fits x

-- a value by a reader, and one behind it by a reader that the first chooses
abbrev pub both : {K A B : Type 0} → Reader K A → (A → Reader K B) → Reader K (A × B)
both r f = and_then r (λ x. mapped (λ y. (x, y)) (f x))

-- a tag that passes, and a body that the tag chooses
abbrev pub tagged : {A : Type 0} → (ℕ → Bool) → (ℕ → Reader (Unit {0}) A) → Reader (Unit {0}) A
tagged ok body = and_then (byte_of ok (λ b. no_kind)) body

-- a list of a length between two bounds: the length, and then so many items
abbrev pub list_at : {A : Type 0} → ℕ → ℕ → (ℕ → Reader (Unit {0}) (List A))
    → Reader (Unit {0}) (List A)
list_at low high many = and_then (num_at no_kind low high) many

abbrev pub list_spelling : {A : Type 0} → (List A → List ℕ) → List A → List ℕ
list_spelling spellings xs = num (length xs) ++ spellings xs

-- a list within the bounds, of items that fit a list of this length
pub record FitsList {A : Type 0} (low high : ℕ) (Fit : ℕ → List A
    → Type 0) (xs : List A) : Type 0 where
  pub at_least : low ≤ length xs
  pub at_most : length xs ≤ high
  pub each : Fit (length xs) xs

-- ---- readers that go from state to state

-- so many values, each read by the state that those before it leave
abbrev pub times_by : {K A S : Type 0} → (S → Reader K A) → (S → A → S) → ℕ → S → Reader K (List A)
times_by r after zero s bytes = Ok ([], bytes)
times_by r after (suc n) s bytes =
    r s bytes >>= λ x. times_by r after n (after s x.0) x.1 >>= λ xs. Ok (x.0 ∷ xs.0, xs.1)

-- values spelled each by the state that those before it leave
abbrev pub spelling_by : {A S : Type 0} → (S → A → List ℕ) → (S → A → S) → S → List A → List ℕ
spelling_by spelling after s [] = []
spelling_by spelling after s (x ∷ xs) = spelling s x ++ spelling_by spelling after (after s x) xs
