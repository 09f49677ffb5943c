use Rattle.do_stack.proofs.naming.+meet.Given as goal
use Rattle.std.{proofs.Common.{◌≡◌, drop}, specs.List.flat_map}
use Rattle.do_base.specs.values.Values.{objects_of}
use Rattle.do_packet.specs.Met.{met}

-- the objects of the values still to come are all that is to be met yet
abbrev pub invariant-meet_values-loop-value : goal.invariant-meet_values-loop-value
invariant-meet_values-loop-value l =
    met l.oids (flat_map objects_of (drop l.value-index l.value-items))
    ≡ met l.fn.oids (flat_map objects_of l.value-items)
