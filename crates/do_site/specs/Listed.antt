-- What a check lists of a node, by the names of its objects.
use Rattle.std.specs.Prelude.{List, Option, filter, map, option_map, ℕ}
use Rattle.do_base.specs.names.Names.{ObjectName}
use Rattle.do_machine.specs.{declared.node.{Node.Node, Stored.Stored}, State.{own, stored}}
use Rattle.do_machine.specs.check.Snapshot.{entry_of}
use Rattle.do_network.specs.Own.{Own, is_counted}
use Rattle.do_trace.specs.declared.outcome.{Entry.Entry, ObjLine.ObjLine}

-- a stored object of this name, as a check lists it
abbrev pub line_by : ObjectName → Stored → ObjLine
line_by o x = record { oid = o; class = x.class; slots = x.slots }

-- the object of a name, as a check lists it, where it is stored
abbrev pub line_at : Node → ObjectName → Option ObjLine
line_at n o = option_map (line_by o) (stored o.serial n.heap)

-- the names of the stored objects
abbrev pub names_stored : Node → List ObjectName
names_stored n = map (λ x. own n x.serial) n.heap

-- the entries that a peer has among objects of these names
abbrev pub entries_among : Own → ℕ → List ObjectName → List Entry
entries_among p peer os = map (entry_of peer) (filter (λ o. is_counted p peer o.serial) os)
