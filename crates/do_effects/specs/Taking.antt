-- What taking an item does to a node, and when it can be done.
use Rattle.std.specs.FinMap as map
use Rattle.std.specs.Prelude.{Bool, List, None, Option, Some, [], false, fold, length}
use Rattle.std.specs.Prelude.{map as mapped, if◌then◌else◌, true, ℕ, ◌+◌, ◌<◌, ◌≡◌, ◌∷◌}
use Rattle.std.specs.List.{filter_map, list_any}
use Rattle.do_base.specs.{names.Names.ObjectName, declared.events.shown.Shown.Shown}
use Rattle.do_base.specs.declared.values.value.Value.{Value}
use Rattle.do_class.specs.declared.packet.Name.{Name}
use Rattle.do_import.specs.ByObject.{added}
use Rattle.do_machine.specs.declared.{item.Item.{Item, TheVariants.Granted}, node.Node.Node}
use Rattle.do_machine.specs.{declared.{node.Wanted.Wanted, state.Effect.Effect}, Context.Context}
use Rattle.do_machine.specs.Effect.{each, showing, ◌>>=◌}
use Rattle.do_machine.specs.Items.{exported, is_exported, name_naming, named_as}
use Rattle.do_machine.specs.{State.{is_known, is_open}, declared.node.Lend.Lend}
use Rattle.do_class.specs.declared.packet.Packet.{Packet}
use Rattle.do_machine.specs.lend.{Asking.{same_wanted, without_wanted}, Lending.lends_of}
use Rattle.do_machine.specs.{run.Fresh.with_objects, take.{Receipt.receiving_name, Take.holding}}
use Rattle.do_network.specs.{Counting.{classed_name, got, of_known, packet_of, with_class}, Own.Own}
use Rattle.do_packet.specs.declared.receipt.Made.{Made}
use Rattle.do_part.specs.{Filled.made_values, Names.{AreStored, sizes_of, values_of}}
use Rattle.do_rules.specs.Ruling.{gaining, names_in, ruled, ruling}
use Rattle.do_rules.specs.declared.take.ruling.Ruling.{Ruling}
use Rattle.do_rules.specs.declared.take.ruling.Ruling.TheVariants.{Answers, Begins, Closes, EndsAsk}
use Rattle.do_rules.specs.declared.take.ruling.Ruling.TheVariants.{Refuses, Replies}
use Rattle.do_stack.specs.{Answered.values_taken, Uses.invocation_values}
use Rattle.do_effects.specs.{Doing.{Doing, effected, moved}, Plans.{CanSendTo, to_keep}}
use Rattle.do_effects.specs.{Room.{HasRoom, Needs, to_send, to_tell}, Tidy.IsTidy}
use Rattle.do_effects.specs.declared.changing.Core.{Core}

-- ---- what taking does

-- what an item comes to by its ruling: it is shown, the node holds what the item exports to it, and
-- then the ruling does what it does
abbrev pub taken : ℕ → Item → Shown → Ruling → Node → Effect
taken from item line r n = showing line n
    >>= (λ m. ruled from item r (holding (exported from n.port item) m))

-- so does a node that counts what the item names to it
abbrev pub takes : ℕ → Item → Shown → Ruling → Doing → Doing
takes from item line r d =
    moved d (effected (got from item d.own) (taken from item line r d.own.node))

-- the objects that names of a peer export
abbrev pub exports : ℕ → ℕ → List Name → List ObjectName
exports from port names = named_as is_exported (mapped (name_naming from port) names)

-- the node with what names of a peer tell it: each export is received once more
abbrev pub got_names : ℕ → List Name → Own → Own
got_names from names p = record p {
  received = fold added p.received (exports from p.node.port names);
  classes = fold with_class p.classes (filter_map (classed_name from) names);
}

-- the node holds what names of a peer export, and they are received in their order
abbrev pub receiving_names : ℕ → List Name → Node → Effect
receiving_names from names n =
    each (receiving_name from) names (holding (exports from n.port names) n)

-- names of a peer are received, and counted
abbrev pub gains : ℕ → List Name → Doing → Doing
gains from names d = moved d (effected (got_names from names d.own)
    (receiving_names from names d.own.node))

-- what comes in the message of an item, once its line is shown
abbrev pub gained : ℕ → Item → Shown → List Made → Doing → Doing
gained from item line copies d = moved d (effected (got from item d.own)
    (showing line d.own.node
    >>= (λ m. gaining from item copies (holding (exported from d.own.node.port item) m))))

-- the item grants what was asked for
abbrev pub is_granted : Item → Bool
is_granted (Granted serial token) = true
is_granted _ = false

-- the ruling is on a message
abbrev pub on_message : Ruling → Bool
on_message (Begins copies i) = true
on_message (Refuses copies reason e) = true
on_message (Answers copies k a) = true
on_message _ = false

-- a node whose ask was granted: it holds the object, which it received once more
abbrev pub granted_own : Wanted → Own → Own
granted_own w p = record p {
  node = without_wanted w (holding (w.object ∷ []) p.node);
  received = added p.received w.object;
}

-- a node whose ask was for what is gone: the class is kept of what it knows still
abbrev pub gone_own : Wanted → Own → Own
gone_own w p = record p {
  node = without_wanted w p.node;
  classes = of_known (without_wanted w p.node) p.classes;
}

-- a node whose ask is over
abbrev pub ended_own : Bool → Wanted → Own → Own
ended_own granted w p = if granted then granted_own w p else gone_own w p

-- the classes that a node keeps are those of what it holds or asked for
abbrev pub HasClasses : Own → Type 0
HasClasses p =
    (o : ObjectName) → is_known p.node o ≡ map.contains_key p.classes (o.node, o.serial)

-- ---- when it can be done

-- the copies that come with a ruling
abbrev pub ruling_copies : Ruling → List Made
ruling_copies (Begins copies i) = copies
ruling_copies (Refuses copies reason e) = copies
ruling_copies (Answers copies k a) = copies
ruling_copies _ = []

-- the values that a ruling gives the node to keep, but for the slots of copies
abbrev pub ruling_values : Ruling → List Value
ruling_values (Begins copies i) = invocation_values i
ruling_values (Answers copies k a) = values_taken a
ruling_values _ = []

-- what receiving so many names takes of room, and each of so many copies
abbrev pub to_gain : ℕ → List Made → Needs
to_gain many copies = record {
  objects = length copies;
  invocations = 0;
  names = many + sizes_of (made_values copies);
  entries = many;
  waiting = many;
}

-- what a ruling takes of room
abbrev pub ruling_needs : Node → ℕ → Ruling → Needs
ruling_needs n many (Begins copies i) = record (to_gain many copies) {
  invocations = 1;
  names = many + sizes_of (made_values copies) + sizes_of (invocation_values i);
}
ruling_needs n many (Refuses copies reason e) =
    record (to_gain many copies) { waiting = many + 1 }
ruling_needs n many (Answers copies k a) = record (to_gain many copies) {
  names = many + sizes_of (made_values copies) + sizes_of (values_taken a);
}
ruling_needs n many (Replies answer) = to_send answer
ruling_needs n many (EndsAsk w) = record (to_keep 1) { entries = 1; waiting = 1 }
ruling_needs n many Closes = to_tell (length n.asked + 1)
ruling_needs n many _ = to_tell 0

-- what taking an item takes of room: one line more
abbrev pub taking_needs : Node → Item → Ruling → Needs
taking_needs n item r = let needs = ruling_needs n (length (names_in item)) r in
    record needs { waiting = needs.waiting + 1 }

-- what a message lends to a peer, where there is one
abbrev pub lent_by : ℕ → Option Packet → List Lend
lent_by to None = []
lent_by to (Some packet) = lends_of to packet

-- an item names nothing of a third node
abbrev pub LendsNothing : ℕ → Item → Type 0
LendsNothing to item = lent_by to (packet_of item) ≡ []

-- a node can do what a ruling says
abbrev pub CanFollow : Node → ℕ → Item → Ruling → Type 0
CanFollow n from item (Begins copies i) = length n.stack < 256
CanFollow n from item (Replies answer) = CanSendTo n from answer × LendsNothing from answer
CanFollow n from (Granted serial token) (EndsAsk w) =
    list_any (same_wanted w) n.asked ≡ true
CanFollow n from item r = Unit {0}

-- An item can be taken: nothing is counted that the node does not keep, the end towards the peer
-- is open and no end towards the node itself, the ruling is that of some judgement, the own objects
-- are stored that what comes names, copies among them, and there is room.
pub record CanTake (from : ℕ) (item : Item) (r : Ruling) (c : Core) : Type 0 where
  pub tidy : IsTidy c.part.own
  pub open_end : is_open c.part.own.node from ≡ true
  pub apart : is_open c.part.own.node c.part.own.node.port ≡ false
  pub judged : (g : Context) × (r ≡ ruling g from item)
  pub copies : AreStored (with_objects (ruling_copies r) c.part.own.node)
      (values_of (made_values (ruling_copies r)))
  pub values : AreStored (with_objects (ruling_copies r) c.part.own.node)
      (values_of (ruling_values r))
  pub can : CanFollow c.part.own.node from item r
  pub room : HasRoom (taking_needs c.part.own.node item r) c
