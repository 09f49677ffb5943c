-- The forms of which grammars are made. Each has a reader in Reader, and a lemma `Reads-..` in
-- proofs/ that this reader reads it exactly.
use Rattle.std.specs.Prelude.{◌≡◌, ◌≢◌, ℕ, zero, suc, ◌<◌, Bool, true, false, List, [], ◌∷◌, ◌++◌}
use Rattle.std.specs.Prelude.{length, Option, Some, Result, Ok, Err}
use Rattle.do_grammar.specs.{Reader.{Step, goes, leaves, fails}, Grammar.IsBytes}

-- a value that is spelled by no bytes
pub record Done {A : Type 0} (x : A) (text : List ℕ) (y : A) : Type 0 where
  pub nothing : text ≡ []
  pub same : x ≡ y

-- a spelling of a value of the first grammar, and behind it one of the grammar that this value
-- chooses
pub record Then {A B : Type 0} (G : List ℕ → A → Type 0) (H : A → List ℕ → B
    → Type 0) (text : List ℕ) (y : B) : Type 0 where
  pub value : A
  pub front : List ℕ
  pub back : List ℕ
  pub parts : text ≡ front ++ back
  pub first : G front value
  pub second : H value back y

-- one byte that passes a test
pub record Byte (ok : ℕ → Bool) (text : List ℕ) (b : ℕ) : Type 0 where
  pub alone : text ≡ b ∷ []
  pub passes : ok b ≡ true
  pub small : b < 256

-- some byte passes the test
pub record Passes (ok : ℕ → Bool) : Type 0 where
  pub byte : ℕ
  pub small : byte < 256
  pub passes : ok byte ≡ true

-- the grammar that a test chooses
abbrev pub Either : {A : Type 0} → Bool → (List ℕ → A → Type 0) → (List ℕ → A → Type 0) → List ℕ → A
    → Type 0
Either true G H text x = G text x
Either false G H text x = H text x

-- so many spellings, one behind the other
abbrev pub Times : {A : Type 0} → (List ℕ → A → Type 0) → ℕ → List ℕ → List A → Type 0
Times G zero text xs = Done [] text xs
Times G (suc n) text xs = Then G (λ x. Then (Times G n) (λ ys. Done (x ∷ ys))) text xs

-- a spelling of the value that this one is made from
pub record Mapped {A B : Type 0} (to : A → B) (G : List ℕ → A
    → Type 0) (text : List ℕ) (y : B) : Type 0 where
  pub value : A
  pub spelled : G text value
  pub same : to value ≡ y

-- so many bytes, which spell themselves
pub record Bytes (n : ℕ) (text bytes : List ℕ) : Type 0 where
  pub same : text ≡ bytes
  pub len : length bytes ≡ n
  pub small : IsBytes bytes

-- bytes in two parts
pub record Joined (P Q : List ℕ → Type 0) (text : List ℕ) : Type 0 where
  pub front : List ℕ
  pub back : List ℕ
  pub parts : text ≡ front ++ back
  pub one : P front
  pub others : Q back

-- spellings one behind the other, and a byte that ends them
abbrev pub Untils : {A : Type 0} → ℕ → (List ℕ → A → Type 0) → List ℕ → List A → Type 0
Untils end G text [] = text ≡ end ∷ []
Untils end G text (x ∷ xs) = Joined (λ front. G front x) (λ back. Untils end G back xs) text

-- a text that doesn't begin with a byte, and isn't empty
abbrev pub Apart : ℕ → List ℕ → Type 0
Apart end [] = ⊥
Apart end (b ∷ text) = b ≢ end

-- what a step of a scan has to fulfil: P of the state it goes to, or Q where it leaves
abbrev pub OnStep : {S K : Type 0} → Step S K → (S → Type 0) → Type 0 → Type 0
OnStep (goes s) P Q = P s
OnStep leaves P Q = Q
OnStep (fails k) P Q = ⊥

-- bytes that lead from state to state, and behind them a spelling of the grammar that the last
-- state chooses
module _ {S K A : Type 0} (step : S → ℕ → Step S K) (H : S → List ℕ → A → Type 0) where
  abbrev pub Scans : S → List ℕ → A → Type 0
  Scans s [] x = ⊥
  Scans s (b ∷ text) x = (b < 256) × OnStep (step s b) (λ t. Scans t text x) (H s (b ∷ text) x)

-- what a step of a machine has to fulfil: P of the state it goes to
abbrev pub OnGo : {S K : Type 0} → Result S K → (S → Type 0) → Type 0
OnGo (Ok s) P = P s
OnGo (Err k) P = ⊥

-- bytes that lead from a state to one that is accepted
module _ {S K A : Type 0} (step : S → ℕ → Result S K) (accept : S → Option A) where
  abbrev pub Accepts : S → List ℕ → A → Type 0
  Accepts s [] x = accept s ≡ Some x
  Accepts s (b ∷ text) x = (b < 256) × OnGo (step s b) (λ t. Accepts t text x)
