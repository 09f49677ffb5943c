-- A class table, as a plain list of classes: a class is named by its place in the list, and a
-- method by its place in its class.
use Rattle.std.specs.Prelude.{ℕ, ◌≤◌, List, length, map, Option, option_and_then, slice_get}
use Rattle.std.specs.{List.{All, IsDistinct}, Option.option_map, Str.bytes_eq}
use Rattle.do_class.specs.Class.{Class, IsClass, place_of, selectors_of}
use Rattle.do_class.specs.declared.ids.{ClassId.ClassId, MethodId.MethodId, Slot.Slot}
use Rattle.do_class.specs.declared.method.Method.{Method}
use Rattle.do_sig.specs.declared.signature.Signature.{Signature}

-- the names of the classes, in order
abbrev pub names_of : List Class → List (List ℕ)
names_of table = map (λ c. c.name) table

-- What a table always is: at most 256 classes, no two of one name, each within the limits.
pub record IsTable (table : List Class) : Type 0 where
  pub few : length table ≤ 256
  pub names : IsDistinct bytes_eq (names_of table)
  pub classes : All IsClass table

-- the class at a place
abbrev pub class_at : List Class → ClassId → Option Class
class_at table class = slice_get table class.0

-- the name of a class
abbrev pub name_of : List Class → ClassId → Option (List ℕ)
name_of table class = option_map (λ c. c.name) (class_at table class)

-- the slots of a class
abbrev pub slots_of : List Class → ClassId → Option (List Slot)
slots_of table class = option_map (λ c. c.slots) (class_at table class)

-- the method at a place of a class
abbrev pub method_at : List Class → MethodId → Option Method
method_at table method =
    option_and_then (λ c. slice_get c.methods method.index) (class_at table method.class)

-- the signature of a method
abbrev pub signature_of : List Class → MethodId → Option Signature
signature_of table method = option_map (λ m. m.signature) (method_at table method)

-- the selector of a method
abbrev pub selector_of : List Class → MethodId → Option (List ℕ)
selector_of table method = option_map (λ m. m.selector) (method_at table method)

-- the id of the class at a place
abbrev pub class_id : ℕ → ClassId
class_id place = record { 0 = place }

-- the id of the method at a place of a class
abbrev pub method_id : ClassId → ℕ → MethodId
method_id class place = record { class = class; index = place }

-- the class of a name
abbrev pub class_named : List Class → List ℕ → Option ClassId
class_named table name = option_map class_id (place_of name (names_of table))

-- the method of a class with a selector
abbrev pub find_method : List Class → ClassId → List ℕ → Option MethodId
find_method table class selector =
    option_and_then (λ c. option_map (method_id class) (place_of selector (selectors_of c.methods)))
    (class_at table class)
