use Rattle.do_rules.proofs.held.leaving.names_of.Given as goal
use Rattle.std.proofs.Common.{◌≡◌, map, take}
use Rattle.do_machine.specs.Objects.{object_at}

abbrev pub invariant-loop-stored : goal.invariant-loop-stored
invariant-loop-stored l =
    l.names ≡ map (λ x. object_at l.port x.serial) (take l.stored-index l.stored-items)
