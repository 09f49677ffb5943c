-- What a state is after an effect of one of its nodes.
use Rattle.std.specs.Prelude.{List, [], false, filter, map, nat_le, true, ℕ, ◌++◌, ◌==◌}
use Rattle.do_base.specs.declared.events.shown.Shown.{Shown}
use Rattle.do_class.specs.declared.ids.ClassId.{ClassId}
use Rattle.do_machine.specs.declared.{item.Item.Item, node.Node.Node, state.Queue.Queue}
use Rattle.do_machine.specs.declared.state.{Station.Station, State.State, Parcel.Parcel}
use Rattle.do_machine.specs.{declared.state.{Effect.Effect, Stepped.Stepped}, Context.around}
use Rattle.do_machine.specs.{State.{change, with_items}, held.Leaving.leaving}

-- the items of parcels to a peer
abbrev pub items_to : ℕ → List Parcel → List Item
items_to to parcels = map (λ p. p.item) (filter (λ p. p.to == to) parcels)

-- a queue with what was sent to its peer
abbrev pub with_sent : List Parcel → Queue → Queue
with_sent sent q = with_items (q.items ++ items_to q.to sent) q

-- the classes of the objects that were made
abbrev pub born : ℕ → Node → List ClassId
born next n = map (λ x. x.class) (filter (λ x. nat_le next x.serial) n.heap)

-- a station after an effect of its node
abbrev pub committed : Effect → Station → Station
committed e s = record s {
  node = e.node;
  queues = map (with_sent e.sent) s.queues;
  classes = s.classes ++ born s.node.next_serial e.node;
}

-- the state after an effect of one node
abbrev pub commit : ℕ → Effect → State → State
commit port e S = change port (committed e) S

-- a state with what an event showed
abbrev pub showed : List Shown → State → Stepped
showed shown S = record { state = S; outcome = record { enabled = true; shown = shown } }

-- a state that no event changed
abbrev pub skipped : State → Stepped
skipped S = record { state = S; outcome = record { enabled = false; shown = [] } }

-- the state after an effect, with what was shown before and what the effect shows
abbrev pub commits : ℕ → List Shown → Effect → State → Stepped
commits port shown e S = showed (shown ++ e.shown) (commit port e S)

-- a node frees and leaves objects, judged in the state that it moved to
abbrev pub then_leaves : ℕ → List Shown → Node → State → Stepped
then_leaves port shown n S = commits port shown (leaving (around S n).entry n) S

-- a node moves: its effect is committed, and then it leaves what nothing holds any more
abbrev pub moved : ℕ → State → Effect → Stepped
moved port S e = then_leaves port e.shown e.node (commit port e S)
