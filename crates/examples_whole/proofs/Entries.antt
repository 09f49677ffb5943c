-- Which objects have entries, what a node holds and leaves, and what it sees of the others.
use Rattle.do_machine.specs.declared.item.Item.TheVariants as items
use Rattle.std.proofs.Common.{◌≡◌, true, false, [], ◌∷◌, map, Some, None, refl}
use Rattle.do_class.specs.declared.packet.{Name.{Name, TheVariants.{Mine, Yours}}, Packet.Packet}
use Rattle.do_trace.specs.declared.outcome.NodeLine.{NodeLine}
use Rattle.do_machine.specs.{declared.state.State.State, Context.around, Entry.has_entry}
use Rattle.do_machine.specs.{Objects.{joined, object_at}, check.Snapshot.snapshot}
use Rattle.do_machine.specs.held.Leaving.{leaving}
use Rattle.examples_whole.proofs.Counters.{at_first, client, closed, counter, counter_object}
use Rattle.examples_whole.proofs.Counters.{holder, under_way, with_node}

-- the counter world with a client that holds the counter
abbrev held : State
held = with_node 7001 holder at_first

-- a message that names one object
abbrev naming : Name → Packet
naming name = record { names = name ∷ []; copies = []; values = [] }

-- the client neither holds the counter, nor is an item under way
an_object_that_is_not_in_use_has_no_entry : has_entry at_first 7001 counter_object ≡ false
an_object_that_is_not_in_use_has_no_entry = refl

-- the client holds the counter
an_object_that_is_held_has_an_entry : has_entry held 7001 counter_object ≡ true
an_object_that_is_held_has_an_entry = refl

-- but not where the holder's end is closed
a_closed_end_of_the_holder_has_no_entry :
    has_entry (with_node 7001 (closed holder) at_first) 7001 counter_object ≡ false
a_closed_end_of_the_holder_has_no_entry = refl

-- nor where the home's end is
a_closed_end_of_the_home_has_no_entry :
    has_entry (with_node 7002 (closed counter) held) 7001 counter_object ≡ false
a_closed_end_of_the_home_has_no_entry = refl

-- the answer with the counter is under way to the client, which does not hold it yet
an_object_that_is_exported_has_an_entry :
    has_entry (under_way 7002 7001 (items.RootAnswer 1 (naming (Mine 1 (record { 0 = 0 })))))
    7001 counter_object ≡ true
an_object_that_is_exported_has_an_entry = refl

-- the client holds the counter no more, and the home was not told yet
an_object_that_is_released_has_an_entry :
    has_entry (under_way 7001 7002 (items.Left 1)) 7001 counter_object ≡ true
an_object_that_is_released_has_an_entry = refl

-- an answer with the counter back to its home only mentions it
an_object_that_is_mentioned_has_no_entry :
    has_entry (under_way 7001 7002 (items.Reply 1 (naming (Yours 1)))) 7001 counter_object ≡ false
an_object_that_is_mentioned_has_no_entry = refl

-- the client does not see the class of an object that it does not hold
the_class_of_an_object_not_held_is_not_seen : (around at_first client).class_of counter_object
    ≡ None
the_class_of_an_object_not_held_is_not_seen = refl

-- and sees it once it holds it
the_class_of_an_object_that_is_held_is_seen : (around held holder).class_of counter_object
    ≡ Some (record { 0 = 0 })
the_class_of_an_object_that_is_held_is_seen = refl

-- objects stand by rising port, and those of a port by rising serial
a_joined_object_stands_in_order :
    joined (object_at 7001 9 ∷ object_at 7002 1 ∷ object_at 7002 3 ∷ []) (object_at 7002 2) ≡
    object_at 7001 9 ∷ object_at 7002 1 ∷ object_at 7002 2 ∷ object_at 7002 3 ∷ []
a_joined_object_stands_in_order = refl

-- an object that is held already joins no second time
an_object_joins_once :
    joined (object_at 7001 9 ∷ object_at 7002 1 ∷ []) (object_at 7002 1) ≡
    object_at 7001 9 ∷ object_at 7002 1 ∷ []
an_object_joins_once = refl

-- of objects that nothing names any more each home is told, in order
objects_left_at_once_are_told_in_order :
    leaving (λ peer serial. false) (record client { held = counter_object ∷ object_at 7003 5 ∷ [] })
    ≡ record {
      node = client;
      sent = record { to = 7002; item = items.Left 1 }
          ∷ record { to = 7003; item = items.Left 5 } ∷ [];
      shown = [];
    }
objects_left_at_once_are_told_in_order = refl

-- the client's end towards the counter's node is closed, and the client's line lists that, the
-- other line none
a_check_lists_a_closed_end :
    map (λ (l : NodeLine). l.closed) (snapshot (with_node 7001 (closed client) at_first)).nodes
    ≡ (7002 ∷ []) ∷ [] ∷ []
a_check_lists_a_closed_end = refl
