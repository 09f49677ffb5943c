use Rattle.do_center.proofs.acts.deliveries_value.Given as goal
use Rattle.std.proofs.Common.{◌≡◌, map, take}
use Rattle.do_center.specs.Notes.{delivery_value}

abbrev pub invariant-loop-delivery : goal.invariant-loop-delivery
invariant-loop-delivery l =
    l.values ≡ map delivery_value (take l.delivery-index l.delivery-items)
