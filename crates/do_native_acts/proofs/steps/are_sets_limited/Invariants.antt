use Rattle.do_native_acts.proofs.steps.are_sets_limited.Given as goal
use Rattle.std.{proofs.Common.{◌≡◌, true, take}, specs.List.list_all}
use Rattle.do_native_acts.specs.Limited.{is_limited}

abbrev pub invariant-loop-set : goal.invariant-loop-set
invariant-loop-set l =
    list_all (λ s. is_limited s.value) (take l.set-index l.set-items) ≡ true
