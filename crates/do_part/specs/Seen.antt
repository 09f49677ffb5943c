-- What contracts see of the fields of a part.
use Rattle.std.specs.FinMap as map
use Rattle.std.specs.Prelude.{ℕ, map as each, min, nat_lt, ◌-◌, Bool, ◌^◌}
use Rattle.do_base.specs.names.Names.{ObjectName}
use Rattle.do_class.specs.declared.ids.ClassId.{ClassId}
use Rattle.do_import.specs.{Asked.AskKey, ByObject.object_of}
use Rattle.do_machine.specs.{Lists.all_inserted, Objects.object_at, declared.node.Lend.Lend}
use Rattle.do_machine.specs.{declared.node.Wanted.Wanted, lend.Asking.{wanted, wanted_lt}}
use Rattle.do_network.specs.Own.{Own}
use Rattle.do_part.specs.{Holding.{plain, most_names}, Owned.{Owned, Room}}
use Rattle.do_part.specs.declared.part.Part.TheInside.{Inside}

-- a lend of the map of lends
abbrev pub lend_of : (ℕ × ℕ) × ObjectName → Lend
lend_of row = record { number = row.0.1; object = row.1; borrower = row.0.0 }

-- lends stand by rising number
abbrev pub lend_lt : Lend → Lend → Bool
lend_lt l k = nat_lt l.number k.number

-- an ask of the map of asks
abbrev pub ask_of : AskKey × ClassId → Wanted
ask_of row = wanted (object_at row.0.0.0 row.0.1.1) row.0.0.1 row.0.1.0

-- what a node has of its own
abbrev pub own_of : Inside → Own
own_of i = record {
  node = record {
    port = i.holders.node;
    heap = each plain i.holders.store.objects;
    root = i.root;
    stack = i.stack.invocations;
    next_serial = i.holders.store.next;
    next_call = i.next_call;
    next_token = i.holders.imports.next;
    open_to = i.ends;
    held = each object_of (map.keys i.holders.imports.received);
    lent = all_inserted lend_lt (each lend_of (map.entries i.holders.imports.lends));
    asked = all_inserted wanted_lt (each ask_of (map.entries i.holders.imports.asks));
    late = i.stack.late;
  };
  counts = i.exports.counts;
  received = i.holders.imports.received;
  classes = i.holders.imports.classes;
}

-- the room that the fields have together: a name needs room among the imports, and each name that
-- was ever counted is counted here; an entry needs room among the exports and for a link
abbrev pub room_of : Inside → Room
room_of i = record {
  objects = min i.holders.store.spare (2 ^ 63 - i.holders.store.next);
  invocations = i.stack.spare;
  names = min i.holders.imports.spare (most_names - i.holders.names);
  entries = min i.exports.spare i.holders.imports.links;
}

-- what contracts see
abbrev pub owned_of : Inside → Owned
owned_of i = record { own = own_of i; room = room_of i }
