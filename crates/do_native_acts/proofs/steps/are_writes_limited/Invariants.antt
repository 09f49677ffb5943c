use Rattle.do_native_acts.proofs.steps.are_writes_limited.Given as goal
use Rattle.std.{proofs.Common.{◌≡◌, true, take}, specs.List.list_all}
use Rattle.do_native_acts.specs.Limited.{is_limited}

abbrev pub invariant-loop-write : goal.invariant-loop-write
invariant-loop-write l =
    list_all (λ w. is_limited w.value) (take l.write-index l.write-items) ≡ true
