-- Names of objects, in an order.
use Rattle.std.specs.Prelude.{Bool, List, [], if◌then◌else◌, ℕ, ◌∷◌}
use Rattle.do_base.specs.names.Names.{ObjectName}
use Rattle.do_packet.specs.Met.{has_object}
use Rattle.do_machine.specs.Lists.{inserted, numbers_lt}

-- the object of a node with a serial
abbrev pub object_at : ℕ → ℕ → ObjectName
object_at port serial = record { node = port; serial = serial }

-- objects stand by rising port, then by rising serial
abbrev pub object_lt : ObjectName → ObjectName → Bool
object_lt a b = numbers_lt (a.node ∷ a.serial ∷ []) (b.node ∷ b.serial ∷ [])

-- a set of objects, which one more joins once and in order
abbrev pub joined : List ObjectName → ObjectName → List ObjectName
joined os o = if has_object os o then os else inserted object_lt o os
