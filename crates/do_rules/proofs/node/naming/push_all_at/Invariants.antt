use Rattle.do_rules.proofs.node.naming.push_all_at.Given as goal
use Rattle.std.proofs.Common.{◌≡◌, ◌++◌, map, take}
use Rattle.do_machine.specs.Objects.{object_at}

abbrev pub invariant-loop-serial : goal.invariant-loop-serial
invariant-loop-serial l =
    l.objects ≡ l.fn.objects ++ map (object_at l.node) (take l.serial-index l.serial-items)
