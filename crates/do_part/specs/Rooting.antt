-- The names that a root is, and the names of foreign objects that are held.
use Rattle.std.specs.FinMap as map
use Rattle.std.specs.Prelude.{ℕ, List, Option, Some, None, map as each}
use Rattle.do_base.specs.{names.Names.ObjectName, declared.values.value.Value.TheVariants.Obj}
use Rattle.do_export.specs.Counts.{Counts}
use Rattle.do_import.specs.ByObject.{object_of}
use Rattle.do_machine.specs.Objects.{object_at}
use Rattle.do_part.specs.Names.{value_of}

-- the foreign objects of which names were received and not given back
abbrev pub held_of : Counts → List ObjectName
held_of received = each object_of (map.keys received)

-- how often a root names an object: once itself
abbrev pub root_of : ℕ → Option ℕ → ObjectName → ℕ
root_of port None o = 0
root_of port (Some serial) o = value_of (Obj (object_at port serial)) o

-- how many names a root is
abbrev pub root_size : Option ℕ → ℕ
root_size None = 0
root_size (Some serial) = 1
