-- What is left of a limit behind one weight after another.
use Rattle.std.proofs.{Common.{◌≡◌, ℕ, ◌+◌, Some, None, arith}, lemmas.Grind.common_steps}
use Rattle.do_behave.specs.Limits.{left_of}

-- what is left behind the second weight is left behind both
pub left_both : (most a b rest : ℕ) → Some rest ≡ left_of most a
    → left_of rest b ≡ left_of most (a + b)
left_both most a b rest e = grind (arith, common_steps)

-- a limit that the first weight passes, both pass
pub left_none : (most a b : ℕ) → None ≡ left_of most a → None ≡ left_of most (a + b)
left_none most a b e = grind (arith, common_steps)

pub ruleset left_steps = (left_both, left_none)
