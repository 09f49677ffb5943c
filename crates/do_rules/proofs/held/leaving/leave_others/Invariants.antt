use Rattle.do_rules.proofs.held.leaving.leave_others.Given as goal
use Rattle.std.proofs.Common.{◌≡◌, ◌++◌, filter, map, not, take}
use Rattle.do_packet.specs.Met.{has_object}
use Rattle.do_machine.specs.held.Leaving.{left}

abbrev pub invariant-loop-object : goal.invariant-loop-object
invariant-loop-object l =
    l.sent ≡ l.fn.sent ++ map left
    (filter (λ o. not (has_object l.referred o)) (take l.object-index l.object-items))
