use Rattle.do_store.proofs.table.Table.list.Given as goal
use Rattle.std.proofs.Common.{◌≡◌, take, map}
use Rattle.slab.specs.Slab.{get}
use Rattle.do_store.specs.{Objects.name_of, Listing.listed}

abbrev pub invariant-loop-pair : goal.invariant-loop-pair
invariant-loop-pair l =
    l.oids ≡ map (name_of l.node)
    (listed (get l.self-inside.slots) (take l.pair-index l.pair-items))
