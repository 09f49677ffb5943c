use Rattle.do_rules.proofs.held.leaving.show_gone.Given as goal
use Rattle.std.proofs.Common.{◌≡◌, ◌++◌, filter, map, not, take}
use Rattle.do_base.specs.declared.events.shown.Shown.TheVariants.{Free}
use Rattle.do_packet.specs.Met.{has_object}
use Rattle.do_machine.specs.Objects.{object_at}

abbrev pub invariant-loop-stored : goal.invariant-loop-stored
invariant-loop-stored l =
    l.lines ≡ l.fn.lines ++ map (λ x. Free (object_at l.port x.serial))
    (filter (λ x. not (has_object l.left (object_at l.port x.serial)))
    (take l.stored-index l.stored-items))
