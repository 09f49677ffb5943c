-- The part that stands for a value in a message.
use Rattle.do_packet.specs.declared.role.Role.TheVariants as roles
use Rattle.std.specs.Prelude.{Bool, List, ℕ}
use Rattle.do_base.specs.{names.Names.ObjectName, declared.values.value.Value.{Value, fold-Value}}
use Rattle.do_base.specs.declared.values.value.Value.TheOpen.{Value-F}
use Rattle.do_class.specs.declared.packet.Part.{List as Parts, Part}
use Rattle.do_class.specs.declared.packet.Part.TheVariants.{Copy, Named, Nil, Num, Text}
use Rattle.do_packet.specs.{Met.{place, role_of}, Seen.Seen, declared.role.Role.Role}

-- an object is its place among the copies, or among the names, or nil, by what becomes of it
abbrev pub object_part : Role → List ObjectName → List ObjectName → ObjectName → Part
object_part roles.Copied copies names o = Copy (place copies o)
object_part roles.Named copies names o = Named (place names o)
object_part roles.Absent copies names o = Nil

-- one level of a value in such a place, where the values inside are parts already
abbrev pub part_step : Seen → ℕ → Bool → List ObjectName → List ObjectName → Value-F Part → Part
part_step seen from copy copies names Value-F.Nil = Nil
part_step seen from copy copies names (Value-F.Num n) = Num n
part_step seen from copy copies names (Value-F.Text s) = Text s
part_step seen from copy copies names (Value-F.Obj o) =
    object_part (role_of seen from copy o) copies names o
part_step seen from copy copies names (Value-F.List ps) = Parts ps

-- a value in a place that is bycopy or not, in a message with these copies and names
abbrev pub part_of : Seen → ℕ → Bool → List ObjectName → List ObjectName → Value → Part
part_of seen from copy copies names =
    fold-Value Part (part_step seen from copy copies names)
