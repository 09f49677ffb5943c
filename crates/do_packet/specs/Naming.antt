-- Which object a name names.
use Rattle.std.specs.Prelude.{ℕ}
use Rattle.do_base.specs.names.Names.{ObjectName}
use Rattle.do_class.specs.declared.packet.Name.{Name, TheVariants.{Lent, Mine, Yours}}

-- the object that a name in a message from one node to another names
abbrev pub object_named : ℕ → ℕ → Name → ObjectName
object_named from to (Mine serial class) = record { node = from; serial = serial }
object_named from to (Yours serial) = record { node = to; serial = serial }
object_named from to (Lent o class token) = o
