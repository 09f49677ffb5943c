use Rattle.do_world.proofs.method_codes.names_of_slots.Given as goal
use Rattle.std.proofs.Common.{◌≡◌, map, take}
use Rattle.do_class.specs.declared.ids.Slot.{Slot}

abbrev pub invariant-loop-slot : goal.invariant-loop-slot
invariant-loop-slot l = l.names ≡ map (λ (s : Slot). s.name) (take l.slot-index l.slots)
