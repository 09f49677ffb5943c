use Rattle.do_class_kinds.proofs.slots.native_slots.Given as goal
use Rattle.std.proofs.Common.{◌≡◌, false, map, take}

abbrev pub invariant-loop-name : goal.invariant-loop-name
invariant-loop-name l =
    l.slots ≡ map (λ name. record { name = name; copy = false })
    (map (λ n. n.now) (take l.name-index l.names))
