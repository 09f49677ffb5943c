use Rattle.do_behave.proofs.exchanging.put_all.Given as goal
use Rattle.std.{proofs.Common.{◌≡◌, ◌+◌, ◌≤◌, ◌++◌, length}, specs.Prelude.{vec_len, vec_capacity}}
use Rattle.do_behave.specs.{Changes.with_set, Exchange.set_out}

-- the locals that are still to be set come after those that are, the values that were taken before
-- those still to be taken, and the list has room for these
abbrev pub invariant-loop-sets : goal.invariant-loop-sets
invariant-loop-sets l = (with_set l.locals l.sets ≡ with_set l.fn.locals l.fn.sets)
    × (vec_len l.was + length l.sets ≤ vec_capacity l.was)
    × (l.was.items ++ set_out l.locals l.sets ≡ set_out l.fn.locals l.fn.sets)

-- a set less is left each time
abbrev pub decreases-loop-sets : goal.decreases-loop-sets
decreases-loop-sets l = length l.sets
