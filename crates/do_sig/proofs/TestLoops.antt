-- Loops that stop at the first item that fails a test.
use Rattle.std.proofs.Common.{◌≡◌, ◌<◌, ◌≤◌, ◌+◌, ℕ, Bool, true, List, take, length, get_or, refl}
use Rattle.std.specs.List.{list_all}
use Rattle.std.proofs.lemmas.List.{Folds.{list_all_more, list_all_at}, take_all}

-- with one more that passes all pass
pub next_passes : {X : Type 0} (p : X → Bool) (xs : List X) (i : ℕ) (d : X) → i < length xs
    → list_all p (take i xs) ≡ true → p (get_or xs i d) ≡ true → list_all p (take (i + 1) xs) ≡ true
next_passes p xs i d h e f = rw (list_all_more p xs i d h, e, f) refl

-- past the last all have passed
pub all_passed : {X : Type 0} (p : X → Bool) (xs : List X) (i : ℕ) → length xs ≤ i
    → list_all p (take i xs) ≡ true → list_all p xs ≡ true
all_passed p xs i h e = let t = take_all i xs h in rw t at e

pub ruleset all_steps = (next_passes, all_passed, list_all_at)
