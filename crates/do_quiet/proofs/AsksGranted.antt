-- As long as all ends are open, what is asked for is stored, and no ask is refused.
use Rattle.do_machine.specs.declared.item.Item.TheVariants as items
use Rattle.std.proofs.Common.{◌≡◌, ◌∙◌, ℕ, true, false, List, [], ◌∷◌, refl, sym, ap, arith}
use Rattle.std.specs.{Prelude.{Some, nat_lt}, List.{flat_map, list_any}}
use Rattle.std.proofs.lemmas.Bool.Decides.{nat_tests}
use Rattle.do_base.specs.declared.events.event.Event.{Event}
use Rattle.do_class.specs.{Class.Class, declared.packet.Name.Name}
use Rattle.do_class.specs.declared.packet.Name.TheVariants.{Lent, Mine, Yours}
use Rattle.do_machine.specs.declared.{item.Item.Item, node.{Node.Node, Wanted.Wanted}}
use Rattle.do_machine.specs.{declared.state.{Seat.Seat, State.State}, Lists.some_passes}
use Rattle.do_machine.specs.{State.{node, queue}, lend.Asking.same_wanted, run.Run.Acting}
use Rattle.do_facts.specs.{Made.is_stored, Net.total, Reached.reached, View.{net_of, part_seen}}
use Rattle.do_facts.specs.links.{Links.{atoms, links, name_atoms}, Moves.has_wanted}
use Rattle.do_facts.proofs.links.{EntriesAsNet.queue_same, EntriesStored.stored_same}
use Rattle.do_facts.proofs.links.SameIsEqual.{wanted_itself}
use Rattle.do_quiet.specs.Quiet.{AllEndsOpen, AsksAreGranted, is_gone}
use Rattle.do_quiet.proofs.Backing.{all_in, asked_stored, gone_of}
use Rattle.do_quiet.proofs.{LendsKept.{StandsLent, first_ends, reached_stands}, QuietStates.reach}

-- the names of a message refuse nothing
names_gone : (ns : List Name) → total gone_of (flat_map name_atoms ns) ≡ 0
names_gone [] = refl
names_gone (Mine s class ∷ ns) = omega (arith, names_gone ns)
names_gone (Yours s ∷ ns) = omega (arith, names_gone ns)
names_gone (Lent o class t ∷ ns) = omega (arith, names_gone ns)

-- an item refuses an ask where its atoms do
item_gone : (item : Item) → is_gone item ≡ nat_lt 0 (total gone_of (atoms item))
item_gone (items.Call number m) = grind (arith, nat_tests, names_gone m.packet.names)
item_gone (items.Oneway m) = grind (arith, nat_tests, names_gone m.packet.names)
item_gone (items.Reply number packet) = grind (arith, nat_tests, names_gone packet.names)
item_gone (items.RootAnswer number packet) = grind (arith, nat_tests, names_gone packet.names)
item_gone _ = refl

module _ (table : List Class) (seats : List Seat) (S : State) (h : StandsLent table seats S)
    (open_all : AllEndsOpen S) where
  -- what a node asks for is stored
  asked_there : (port : ℕ) (n : Node) (w : Wanted) → node S port ≡ Some n →
      list_any (same_wanted w) n.asked ≡ true → is_stored S w.object ≡ true
  asked_there port n w here e =
      stored_same w.object (node S w.object.node)
      ∙ asked_stored (first_ends table seats) (net_of links S) h.backed
      (reach table seats S h.stands open_all) port w.object.node w.object.serial w.token.lender
      w.token.number (ap (λ found. has_wanted (part_seen links found) w) here ∙ e)

  -- no item refuses an ask
  none_gone : (from to : ℕ) (waiting : List Item) → queue S from to ≡ Some waiting →
      list_any is_gone waiting ≡ false
  none_gone from to waiting q =
      let none = (h.backed.backed (reach table seats S h.stands open_all)).0 from to in
      ap (some_passes (list_any is_gone)) (sym q)
      ∙ queue_same is_gone gone_of item_gone (queue S from to) ∙ ap (nat_lt 0) none

  -- so asks are granted
  asks_granted : AsksAreGranted S
  asks_granted = record {
    stored = λ port n here.
        all_in same_wanted wanted_itself (λ w. is_stored S w.object ≡ true) n.asked
        (λ w e. asked_there port n w here e);
    refused = none_gone;
  }

-- in every state that a machine comes to
pub reached_granted : (table : List Class) (act : Acting) (seats : List Seat)
    (events : List Event) → AllEndsOpen (reached table act seats events) →
    AsksAreGranted (reached table act seats events)
reached_granted table act seats events open_all =
    asks_granted table seats (reached table act seats events)
    (reached_stands table seats act events) open_all
