-- What an effect of a peer does to the entries that it has.
use Rattle.std.proofs.Common.{◌≡◌, ◌==◌, ◌&&◌, ◌||◌, ℕ, Bool, true, false, List, refl, arith, ap}
use Rattle.std.{proofs.Common.◌∙◌, specs.{Prelude.{None, Option, Some}, List.list_any}}
use Rattle.std.proofs.lemmas.List.Folds.{list_any-append}
use Rattle.do_base.specs.names.Names.{ObjectName}
use Rattle.do_packet.specs.Met.{has_object}
use Rattle.do_machine.specs.declared.{item.Item.Item, node.Node.Node, state.Effect.Effect}
use Rattle.do_machine.specs.{declared.state.State.State, Commit.{commit, items_to}, Entry.has_entry}
use Rattle.do_machine.specs.Entry.{is_holder, is_on_its_way_back, is_reached, is_under_way}
use Rattle.do_machine.specs.{Items.released, Lists.some_passes, State.{is_open, node, queue}}
use Rattle.do_facts.proofs.machine.{Frame.elsewhere, Queues.grows_behind, follows.States.changed}
use Rattle.do_facts.proofs.machine.passing.{NoQueue.stays_none, Passes.Passes}

module _ (port : ℕ) (o : ObjectName) (apart : (o.node == port) ≡ false) where
  -- an entry of the peer, with what came
  abbrev pub Entered : State → Node → Bool → Bool
  Entered T n came =
      is_reached T port o
      && ((is_holder o n || (came || is_under_way T port o)) || is_on_its_way_back T port o)

  -- where nothing came it is the entry
  pub entered_none : (S : State) (n : Node) → node S port ≡ Some n →
      Entered S n false ≡ has_entry S port o
  entered_none S n h = rw h

  module _ (e : Effect) (T : State) (n : Node) (came : Bool) (here : node T port ≡ Some n)
      (linked : queue T port o.node ≡ None → is_open n o.node ≡ false)
      (arrives : came ≡ true → is_open n o.node ≡ true)
      (passes : Passes port o n came e) where
    -- the items that release the object
    abbrev back : Option (List Item) → Bool
    back found = some_passes (list_any (λ item. has_object (released port o.node item) o)) found

    -- what is on its way back, by the queue that was there
    by_queue : (found : Option (List Item)) → queue T port o.node ≡ found →
        ((is_holder o e.node || is_under_way T port o)
        || back (queue (commit port e T) port o.node))
        ≡ ((is_holder o n || (came || is_under_way T port o)) || back found)
    by_queue (Some w) q =
        let f : Item → Bool = λ item. has_object (released port o.node item) o in
        ap (λ x. (is_holder o e.node || is_under_way T port o) || back x)
        (grows_behind port o.node e T.stations w q)
        ∙ grind (arith, list_any-append f w (items_to o.node e.sent), passes.same)
    by_queue None q =
        let gone : came ≡ false = grind (arith, linked q, arrives) in
        ap (λ x. (is_holder o e.node || is_under_way T port o) || back x)
        (stays_none port o.node e T.stations q)
        ∙ grind (arith, linked q, gone, passes.same)

    -- an entry after the effect
    pub entry_after : has_entry (commit port e T) port o ≡ Entered T n came
    entry_after =
        rw (elsewhere port o.node e T.stations apart, changed port e n T.stations here)
        (ap (λ b. is_reached T port o && b) (by_queue (queue T port o.node) refl))
