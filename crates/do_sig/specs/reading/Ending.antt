-- Bytes that lead from state to state, and what comes behind them, where they may also end.
use Rattle.std.specs.Prelude.{◌≡◌, ℕ, suc, ◌<◌, List, [], ◌∷◌, length, Option, Some, Err}
use Rattle.do_grammar.specs.{Reader.{Whole, Step, by_step, bad, accepted}, Forms.OnStep}

-- the reader of the grammar below
abbrev pub scan_all : {S K A : Type 0} → (S → ℕ → Step S K) → (S → Option A) → (S → Whole K A) → S
    → Whole K A
scan_all step accept f s [] = accepted (accept s)
scan_all step accept f s (b ∷ bytes) =
    by_step (step s b) (λ t. scan_all step accept f t bytes) (f s (b ∷ bytes))
    (λ k. Err (bad k (suc (length bytes))))

-- either a state that is accepted, or a spelling of the grammar that the last state chooses
module _ {S K A : Type 0} (step : S → ℕ → Step S K) (accept : S → Option A) (H : S → List ℕ → A
    → Type 0) where
  -- bytes that lead on, up to the end or to what comes behind
  abbrev pub ScansAll : S → List ℕ → A → Type 0
  ScansAll s [] x = accept s ≡ Some x
  ScansAll s (b ∷ text) x =
      (b < 256) × OnStep (step s b) (λ t. ScansAll t text x) (H s (b ∷ text) x)
