-- Taking an item is moves of the node.
use Rattle.do_facts.specs.nodes.Cause as cause
use Rattle.do_base.specs.declared.events.shown.Shown.TheVariants as shows
use Rattle.do_behave.specs.declared.invocation.Reason.TheVariants as reasons
use Rattle.do_machine.specs.declared.item.Item.TheVariants as items
use Rattle.do_facts.specs.nodes.Moves as moves
use Rattle.std.proofs.Common.{◌≡◌, ℕ, true, List, [], ◌∷◌, map, refl, sym, subst}
use Rattle.do_behave.specs.declared.invocation.Answer.TheVariants.{Raised}
use Rattle.do_machine.specs.declared.{item.Item.Item, node.Node.Node, state.Effect.Effect}
use Rattle.do_machine.specs.Items.{exported, is_exported, named_as, naming, Released}
use Rattle.do_machine.specs.{State.is_open, ends.Closing.closing, take.Awaiting.values_answer}
use Rattle.do_machine.specs.take.{Lines.item_line, Requests.request, Take.{arrival, holding}}
use Rattle.do_machine.specs.take.Take.{method_call, root_call, take_effect, values_arrival}
use Rattle.do_facts.specs.{Net.{Note, noted}, nodes.{Atoms.{Atom, Whole, atoms}, Judged.Judge}}
use Rattle.do_facts.{specs.nodes.{Judged.context_of, After.note}, proofs.nodes.Closing.by_parting}
use Rattle.do_facts.proofs.nodes.{Walks.{DoesTo, does_on, once}, AsksOver.{by_gone, by_granted}}
use Rattle.do_facts.proofs.nodes.{AsksOver.by_granting, GivingRoot.by_root, Receiving.behind}
use Rattle.do_facts.proofs.nodes.Receiving.{by_call, by_oneway, by_received, still_there, values}

-- an end exports nothing
none_exported : (from to : ℕ) (serials : List ℕ) →
    named_as is_exported (map (naming Released to) serials) ≡ []
none_exported from to [] = refl
none_exported from to (s ∷ serials) = none_exported from to serials

module _ (j : Judge) (from : ℕ) (ends : is_open j.first from ≡ true) where
  -- the node
  abbrev n : Node
  n = j.first

  -- what an item comes to is moves of the node, which take these notes
  abbrev Comes : List (Note Atom) → Effect → Type 0
  Comes taken e = DoesTo j n taken [] e

  -- an end
  by_end : (serials : List ℕ) → j.cause ≡ cause.Take from (items.End serials) →
      Comes (note from (Whole (items.End serials)))
      (closing from (holding (exported from n.port (items.End serials)) n))
  by_end serials why =
      subst (λ os. Comes (note from (Whole (items.End serials))) (closing from (holding os n)))
      (sym (none_exported from n.port serials)) (by_parting j from n serials why ends (λ o. o))

  -- what any item comes to, once what it exports is held
  by_arrival : (item : Item) → j.cause ≡ cause.Take from item →
      Comes (noted from (atoms item))
      (arrival (context_of j) from item (holding (exported from n.port item) n))
  by_arrival (items.Call number m) why =
      does_on j (once j n (moves.Hears from m.target) ends [] refl)
      (by_received j from ends m.packet
      (request (context_of j) from (reasons.Call from number) m)
      (items.Call number m) (by_call j from ends number m))
  by_arrival (items.Oneway m) why =
      does_on j (once j n (moves.Hears from m.target) ends [] refl)
      (by_received j from ends m.packet
      (request (context_of j) from (reasons.Oneway from) m)
      (items.Oneway m) (by_oneway j from ends m))
  by_arrival (items.Reply number packet) why =
      by_received j from ends packet
      (values_arrival (context_of j) (method_call from number))
      (items.Reply number packet)
      (once j (behind j from ends packet).node
      (moves.Receives (method_call from number) (items.Reply number packet)
      (values_answer j.table (values j from ends packet)))
      ((still_there j from ends packet).at_peer, (refl, refl)) [] refl)
  by_arrival (items.Raised number e) why =
      once j n
      (moves.Receives (method_call from number) (items.Raised number e) (λ what. Raised e))
      (ends, (refl, refl)) [] refl
  by_arrival (items.RootAsk number) why = by_root j from ends number
  by_arrival (items.RootAnswer number packet) why =
      by_received j from ends packet
      (values_arrival (context_of j) (root_call from number))
      (items.RootAnswer number packet)
      (once j (behind j from ends packet).node
      (moves.Receives (root_call from number) (items.RootAnswer number packet)
      (values_answer j.table (values j from ends packet)))
      ((still_there j from ends packet).at_peer, (refl, refl)) [] refl)
  by_arrival (items.Ask serial token) why = by_granting j from ends serial token
  by_arrival (items.Granted serial token) why = by_granted j from ends serial token
  by_arrival (items.Gone serial token) why = by_gone j from ends serial token
  by_arrival (items.Left serial) why =
      once j n (moves.Frees from serial) ends [] refl
  by_arrival (items.Settled number) why =
      once j n (moves.Settles from number) ends [] refl
  by_arrival (items.End serials) why = by_end serials why

  -- any item
  pub by_take : (item : Item) → j.cause ≡ cause.Take from item →
      Comes (noted from (atoms item)) (take_effect (context_of j) from item)
  by_take item why =
      does_on j
      (once j n (moves.Takes from item (shows.Took (item_line from n.port item)))
      (ends, refl, why) [] refl)
      (by_arrival item why)
