-- Texts of lines, and machines that go over the members of a list.
use Rattle.std.specs.Prelude.{◌≡◌, ℕ, suc, ◌+◌, ◌<◌, ◌==◌, Bool, true, false, List, [], ◌∷◌, ◌++◌}
use Rattle.std.specs.Prelude.{length, take, Option, Some, Result, Err, if◌then◌else◌}
use Rattle.do_grammar.specs.{Reader.{Stop, bad, accepted, by_result}, Forms.OnGo}

-- a line without its line feed, and whether it has one
pub record Line : Type 0 where
  pub text : List ℕ
  pub fed : Bool

-- the lines of a text with one byte more in front
abbrev pub in_front : ℕ → List Line → List Line
in_front b [] = record { text = b ∷ []; fed = false } ∷ []
in_front b (l ∷ ls) = record { text = b ∷ l.text; fed = l.fed } ∷ ls

-- the lines of a text
abbrev pub cut : List ℕ → List Line
cut [] = []
cut (b ∷ bytes) =
    if b == 10 then record { text = []; fed = true } ∷ cut bytes else in_front b (cut bytes)

-- a line as it stands in its text
abbrev pub line_bytes : Line → List ℕ
line_bytes l = if l.fed then l.text ++ 10 ∷ [] else l.text

-- members that lead from state to state up to their end
abbrev pub automaton_over : {T S K A : Type 0} → (S → T → Result S K) → (S → Option A) → S → List T
    → Result A (Stop K)
automaton_over step accept s [] = accepted (accept s)
automaton_over step accept s (x ∷ xs) =
    by_result (step s x) (λ t. automaton_over step accept t xs) (λ k. Err (bad k (suc (length xs))))

-- members that lead from a state to one that is accepted
abbrev pub AcceptsOver : {T S K A : Type 0} → (S → T → Result S K) → (S → Option A) → S → List T → A
    → Type 0
AcceptsOver step accept s [] x = accept s ≡ Some x
AcceptsOver step accept s (t ∷ text) x = OnGo (step s t) (λ u. AcceptsOver step accept u text x)

-- some list that is in the grammar begins so
pub record BeginsList {T A : Type 0} (G : List T → A → Type 0) (front : List T) : Type 0 where
  pub more : List T
  pub value : A
  pub spelled : G (front ++ more) value

-- the member at this place is the first with which none goes on
pub record IsFirstBadMember {T A : Type 0} (G : List T → A
    → Type 0) (xs : List T) (place : ℕ) : Type 0 where
  pub inside : place < length xs
  pub before : BeginsList G (take place xs)
  pub dead : (more : List T) (x : A) → G (take (place + 1) xs ++ more) x → ⊥
