use Rattle.do_document.proofs.slots.is_new.Given as goal
use Rattle.std.{proofs.Common.{◌≡◌, drop}, specs.{List.list_any, Str.bytes_eq}}
use Rattle.do_class.specs.declared.ids.Slot.{Slot}

abbrev pub invariant-loop-other : goal.invariant-loop-other
invariant-loop-other l =
    list_any (λ (t : Slot). bytes_eq l.slot.name t.name) l.slots
    ≡ list_any (λ (t : Slot). bytes_eq l.slot.name t.name) (drop l.other-index l.slots)
