-- What the items up to here name was added.
use Rattle.do_lost.proofs.items.push_items.Given as goal
use Rattle.std.{proofs.Common.{◌≡◌, ◌++◌, take}, specs.List.flat_map}
use Rattle.do_lost.specs.Named.{item_names}

abbrev pub invariant-loop-item : goal.invariant-loop-item
invariant-loop-item l =
    l.objects ≡ l.fn.objects ++ flat_map (item_names l.way.from l.way.to l.way.serving)
    (take l.item-index l.item-items)
