use Rattle.do_native_acts.proofs.types.are_kinds.Given as goal
use Rattle.std.{proofs.Common.{◌≡◌, true, take}, specs.List.list_all}
use Rattle.do_native_acts.specs.Types.{is_type}

abbrev pub invariant-loop-kind : goal.invariant-loop-kind
invariant-loop-kind l = list_all is_type (take l.kind-index l.kind-items) ≡ true
