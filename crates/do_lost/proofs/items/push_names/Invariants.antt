-- The names up to here were added.
use Rattle.do_lost.proofs.items.push_names.Given as goal
use Rattle.std.proofs.Common.{◌≡◌, ◌++◌, map, take}
use Rattle.do_lost.specs.Named.{name_object}

abbrev pub invariant-loop-name : goal.invariant-loop-name
invariant-loop-name l =
    l.objects
    ≡ l.fn.objects ++ map (name_object l.way.from l.way.to) (take l.name-index l.name-items)
