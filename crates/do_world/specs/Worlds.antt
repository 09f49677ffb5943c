-- What world a document says. What is missing or has another form says nothing here; that it is
-- refused, and where, stands in Faults.
use Rattle.std.specs.Prelude.{ℕ, ℤ, pos, negsuc, nat_le, ◌&&◌, if◌then◌else◌, List, [], length, map}
use Rattle.std.specs.{Prelude.{codes, Option, Some, None, option_and_then}, List.filter_map}
use Rattle.std.specs.Option.{option_map, option_map_or}
use Rattle.toml.specs.Data.{Data, Members, get_member, as_integer, as_str}
use Rattle.do_class.specs.{Class.Class, Table.{class_named, names_of}, declared.ids.Slot.Slot}
use Rattle.do_class_kinds.specs.declared.kind.Kind.{Kind, TheVariants.Script}
use Rattle.do_document.specs.Classes.{classes_in, kind_of, kinds_in, methods_by, rule_lists}
use Rattle.do_document.specs.{Classes.slots_in, Document.{tables_at, text_at}}
use Rattle.do_script.specs.{Assembly.scope, Listing.Listing, Program.{code_from, program}}
use Rattle.do_machine.specs.declared.state.Seat.{Seat}
use Rattle.do_world.specs.declared.world.World.{World}

-- the text of a method's code, which is empty where none stands
unfoldable pub code_text : Members → Option (List ℕ)
code_text t = option_map_or as_str (get_member (codes "code") t) (Some [])

-- the code that a text spells, for the names of slots and classes
abbrev pub listing : List (List ℕ) → List (List ℕ) → List ℕ → Listing
listing slots classes text = record {
  instructions = code_from (scope slots classes text) 0 0 (program text);
  slots = length slots;
  classes = length classes;
}

-- the names of slots
abbrev pub slot_names : List Slot → List (List ℕ)
slot_names slots = map (λ s. s.name) slots

-- the code of a method, for the names of slots and classes
abbrev pub method_code : List (List ℕ) → List (List ℕ) → Members → Option Listing
method_code slots classes t = option_map (listing slots classes) (code_text t)

-- the codes of a class, for the names of its slots and of all classes
unfoldable pub class_codes : List (List ℕ) → List (List ℕ) → Members → List Listing
class_codes slots classes t =
    filter_map (method_code slots classes) (tables_at (codes "method") t)

-- the code of a method of a native class: no instruction
abbrev pub no_code : Listing
no_code = record { instructions = []; slots = 0; classes = 0 }

-- the codes of a class of a kind, for the names of all classes
abbrev pub codes_by : List (List ℕ) → Members → Kind → List Listing
codes_by classes t Script = class_codes (slot_names (slots_in t)) classes t
codes_by classes t kind = map (λ m. no_code) (methods_by kind t)

-- the codes of a class, for the names of all classes
abbrev pub codes_of : List (List ℕ) → Members → List Listing
codes_of classes t = option_map_or (codes_by classes t) (kind_of t) []

-- the codes of a document, for the names of its classes
abbrev pub codes_in : List (List ℕ) → Members → List (List Listing)
codes_in classes d = map (codes_of classes) (tables_at (codes "class") d)

-- a number from 1 to 65,535
abbrev pub port_in : ℤ → Option ℕ
port_in (pos n) = if nat_le 1 n && nat_le n 65535 then Some n else None
port_in (negsuc n) = None

-- the port that a value is
abbrev pub port_of : Data → Option ℕ
port_of d = option_and_then port_in (as_integer d)

-- the node of a table, whose root is of one of these classes
abbrev pub seat_of : List Class → Members → Option Seat
seat_of table t =
    option_and_then (λ port. option_map (λ class. record { node = port; root = class })
    (option_and_then (class_named table) (text_at (codes "root") t)))
    (option_and_then port_of (get_member (codes "port") t))

-- the nodes of a document
abbrev pub seats_in : List Class → Members → List Seat
seats_in table d = filter_map (seat_of table) (tables_at (codes "node") d)

-- the world that a document says
abbrev pub world_of : Members → World
world_of d = record {
  table = classes_in d;
  kinds = kinds_in d;
  rules = rule_lists d;
  program = codes_in (names_of (classes_in d)) d;
  nodes = seats_in (classes_in d) d;
}
