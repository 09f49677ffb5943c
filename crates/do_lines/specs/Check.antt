-- How a check is written.
use Rattle.std.specs.Prelude.{ℕ, List, [], ◌∷◌, ◌++◌, map, Option, Some, None, codes, decimal}
use Rattle.std.specs.List.{flat_map}
use Rattle.do_base.specs.{names.Names.ObjectName, declared.values.value.Value.Value}
use Rattle.do_class.specs.{Class.Class, Table.{name_of, slots_of}, declared.ids.Slot.Slot}
use Rattle.do_trace.specs.declared.outcome.{ObjLine.ObjLine, Entry.Entry, NodeLine.NodeLine}
use Rattle.do_trace.specs.declared.outcome.Snapshot.{Snapshot}
use Rattle.do_sched.specs.Value.{object_name, value_text, spaced}
use Rattle.do_lines.specs.Lines.{joined}

-- a slot's name, an equals sign and its value, for each slot
abbrev pub slot_words : List Slot → List Value → List (List ℕ)
slot_words (slot ∷ slots) (value ∷ values) =
    (slot.name ++ 61 ∷ value_text value) ∷ slot_words slots values
slot_words slots values = []

-- the name of a class, and its slots; a class that is not of the table has neither
abbrev pub class_words : Option (List ℕ) → Option (List Slot) → List Value → List ℕ
class_words (Some name) (Some slots) values = spaced (name ∷ slot_words slots values)
class_words name slots values = []

-- a stored object: its name, its class and its slots
abbrev pub object_text : List Class → ObjLine → List ℕ
object_text table o = codes "object " ++ object_name o.oid
    ++ class_words (name_of table o.class) (slots_of table o.class) o.slots

-- a peer towards which the end is closed
abbrev pub closed_line : ℕ → List ℕ
closed_line peer = codes "closed " ++ decimal peer

-- a peer, and an object that is in use there
abbrev pub entry_line : Entry → List ℕ
entry_line e = codes "entry " ++ decimal e.peer ++ 32 ∷ object_name e.object

-- the root's name, or `nil`
abbrev pub root_word : Option ObjectName → List ℕ
root_word (Some o) = object_name o
root_word None = codes "nil"

-- a node and its root
abbrev pub root_line : NodeLine → List ℕ
root_line n = codes "node " ++ decimal n.node ++ codes " root " ++ root_word n.root

-- a node with its root, then its closed ends, its objects and its entries
abbrev pub node_text : List Class → NodeLine → List ℕ
node_text table n =
    joined (root_line n ∷ [])
    ++ joined (map closed_line n.closed)
    ++ joined (map (object_text table) n.objects)
    ++ joined (map entry_line n.entries)

-- every node in turn
abbrev pub check_lines : List Class → Snapshot → List ℕ
check_lines table snapshot = flat_map (node_text table) snapshot.nodes
