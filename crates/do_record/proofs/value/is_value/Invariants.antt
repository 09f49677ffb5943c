use Rattle.do_record.proofs.value.is_value.Given as goal
use Rattle.std.proofs.Common.{◌≡◌, ◌-◌, length, true}
use Rattle.do_record.specs.Value.{walks}

abbrev pub invariant-loop-token : goal.invariant-loop-token
invariant-loop-token l =
    walks (length l.bytes) true 0 l.bytes ≡ walks (length l.bytes - l._token) l.want l.depth l.rest
