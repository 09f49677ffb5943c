-- Classes that have names, as those of a world that is read.
use Rattle.std.specs.{Prelude.{IsTrue, List}, List.AllByRecursion}
use Rattle.do_class.specs.{Class.Class, declared.ids.Slot.Slot}
use Rattle.do_grammar.specs.Names.{is_name}

-- a slot has a name of the grammar
abbrev pub IsNamedSlot : Slot → Type 0
IsNamedSlot s = IsTrue (is_name s.name)

-- a class has one, and so has each of its slots
pub record IsNamed (c : Class) : Type 0 where
  pub name : IsTrue (is_name c.name)
  pub slots : AllByRecursion IsNamedSlot c.slots

-- each class of a table has
abbrev pub AreNamed : List Class → Type 0
AreNamed table = AllByRecursion IsNamed table
