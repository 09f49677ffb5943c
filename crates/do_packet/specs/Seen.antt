-- What a packer sees of the sending node.
use Rattle.std.specs.Prelude.{Bool, List, Option, ℕ}
use Rattle.do_base.specs.{names.Names.ObjectName, declared.values.value.Value.Value}
use Rattle.do_class.specs.{Class.Class, declared.ids.ClassId.ClassId}

-- what the node sees of objects; of an object that it can't name at all it sees no class
pub record Seen : Type 0 where
  -- the class of an object
  pub class_of : ObjectName → Option ClassId
  -- the values in the slots of an own object
  pub slots : ObjectName → Option (List Value)
  -- a foreign object may be named at present: it is held or asked for, and its home's end is open
  pub usable : ObjectName → Bool

-- the sending node, what it sees, and the class table
pub record Sender : Type 0 where
  pub table : List Class
  pub node : ℕ
  pub seen : Seen

-- a node as a sender
abbrev pub sender : List Class → ℕ → Seen → Sender
sender table node seen = record { table = table; node = node; seen = seen }
