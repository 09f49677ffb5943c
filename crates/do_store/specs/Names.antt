-- The stored objects as a caller sees them, and how often slots name one.
use Rattle.std.specs.Prelude.{ℕ, ◌<◌, cond, eqb, ◌&&◌, List, [], ◌∷◌, Option, Some, None, sum}
use Rattle.std.specs.{Prelude.{sum_by, IsSome}, List.flat_map}
use Rattle.do_base.specs.declared.values.value.Value.{Value, fold-Value, TheOpen.Value-F}
use Rattle.do_base.specs.names.Names.{ObjectName}
use Rattle.do_class.specs.declared.ids.ClassId.{ClassId}

-- an object, with the number of its holders outside the slots
pub record Stored : Type 0 where
  pub serial : ℕ
  pub class : ClassId
  pub slots : List Value
  pub held : ℕ

-- the objects of a node by rising serial, the next serial, and how many more fit
pub record Objects : Type 0 where
  pub node : ℕ
  pub objects : List Stored
  pub next : ℕ
  pub spare : ℕ

-- one level of a value, where the values inside are counted already
abbrev pub name_step : ℕ → ℕ → Value-F ℕ → ℕ
name_step node serial (Value-F.Obj o) = cond ((eqb o.node node) && (eqb o.serial serial)) 1 0
name_step node serial (Value-F.List ns) = sum ns
name_step node serial _ = 0

-- how often a value names the object of a node with a serial
abbrev pub value_names : ℕ → ℕ → Value → ℕ
value_names node serial = fold-Value ℕ (name_step node serial)

-- how often a list of values names it
abbrev pub values_name : ℕ → ℕ → List Value → ℕ
values_name node serial = sum_by (value_names node serial)

-- how often the slots of stored objects name it
abbrev pub named_in : ℕ → ℕ → List Stored → ℕ
named_in node serial = sum_by (λ o. values_name node serial o.slots)

-- the object with a serial
abbrev pub find_stored : List Stored → ℕ → Option Stored
find_stored [] serial = None
find_stored (o ∷ os) serial = cond (eqb o.serial serial) (Some o) (find_stored os serial)

-- how many holders an object has outside the slots; none where it is not stored
abbrev pub held_of : Option Stored → ℕ
held_of None = 0
held_of (Some o) = o.held

-- the list in which these stand in the place of the object with a serial
abbrev pub replaced : ℕ → (Stored → List Stored) → List Stored → List Stored
replaced serial by = flat_map (λ o. cond (eqb o.serial serial) (by o) (o ∷ []))

-- each object of the node that the values name is stored
abbrev pub AllStored : ℕ → List Stored → (ℕ → ℕ) → Type 0
AllStored node objects names = (n : ℕ) → 0 < names n → IsSome (find_stored objects n)

-- an object's name, at its home
abbrev pub stored_name : ℕ → Stored → ObjectName
stored_name node o = record { node = node; serial = o.serial }
