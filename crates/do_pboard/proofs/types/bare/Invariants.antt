use Rattle.do_pboard.proofs.types.bare.Given as goal
use Rattle.std.proofs.Common.{◌≡◌, take}
use Rattle.do_pboard.specs.Core.{bare}

abbrev pub invariant-loop-kind : goal.invariant-loop-kind
invariant-loop-kind l = l.declared ≡ bare (take l.kind-index l.kind-items)
