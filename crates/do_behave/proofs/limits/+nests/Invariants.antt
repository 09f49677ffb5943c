use Rattle.do_behave.proofs.limits.+nests.Given as goal
use Rattle.std.{proofs.Common.{◌≡◌, true, take}, specs.List.list_all}
use Rattle.do_behave.specs.Limits.{nests_within}

abbrev pub invariant-all_nest_within-loop-item : goal.invariant-all_nest_within-loop-item
invariant-all_nest_within-loop-item l =
    list_all (λ v. nests_within v l.depth) (take l.item-index l.item-items) ≡ true
