-- Where objects stand in a list, by a map.
use Rattle.std.specs.{Prelude.{◌≡◌, ℕ, List}, BTreeMap.{BTreeMap, get}, List.position}
use Rattle.std.specs.{Ordering.{nat_cmp, ordering_then}, declared.cmp.Ordering.Ordering}
use Rattle.do_base.specs.names.Names.{ObjectName}
use Rattle.do_packet.specs.Met.{same_object}

-- names of objects are in order by node, and then by serial
abbrev pub object_cmp : ObjectName → ObjectName → Ordering
object_cmp a b = ordering_then (nat_cmp a.node b.node) (nat_cmp a.serial b.serial)

-- the map has each object at its place in the list, and no other object
abbrev pub ArePlaces : List ObjectName → BTreeMap ObjectName ℕ → Type 0
ArePlaces os places = (o : ObjectName) → get object_cmp places o ≡ position (same_object o) os
