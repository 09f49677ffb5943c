-- The entries of a node's objects behind an effect of another node, and what this took off for it.
use Rattle.std.proofs.Common.{◌≡◌, ◌==◌, ℕ, Bool, true, false, List, ◌∷◌, refl, sym, ap, ◌∙◌}
use Rattle.std.{specs.Prelude.{None, Some}, proofs.lemmas.Bool.eqb-true}
use Rattle.do_base.specs.names.Names.{ObjectName}
use Rattle.do_machine.specs.{Commit.commit, Entry.has_entry, State.{change, is_open, node, queue}}
use Rattle.do_machine.specs.declared.{item.Item.Item, node.Node.Node, state.Effect.Effect}
use Rattle.do_machine.specs.declared.state.State.{State}
use Rattle.do_facts.proofs.machine.{Entries.entry_stays, follows.States.requeued}
use Rattle.do_facts.proofs.machine.passing.Commits.{entered_none, entry_after}
use Rattle.do_facts.proofs.machine.passing.EntriesOff.{left_off, others_off, own_off, reaches}
use Rattle.do_facts.proofs.machine.passing.{Lookups.other_stays, Passes.Passes, Takes.comes}
use Rattle.do_orders.{specs.Moves.without_first, proofs.Moving.off_is}

module _ (o : ObjectName) (port : ℕ) (apart : (o.node == port) ≡ false) (e : Effect) (S : State)
    (n : Node) (here : node S port ≡ Some n)
    (linked : queue S port o.node ≡ None → is_open n o.node ≡ false) where
  -- entries of the node itself and of each other peer are all entries
  by_peer : (T : State) → has_entry T port o ≡ has_entry S port o →
      ((peer : ℕ) → (peer == port) ≡ false → has_entry T peer o ≡ has_entry S peer o) →
      (peer : ℕ) → has_entry T peer o ≡ has_entry S peer o
  by_peer T own others peer = go (peer == port) refl
    where
      go : (b : Bool) → (peer == port) ≡ b → has_entry T peer o ≡ has_entry S peer o
      go false q = others peer q
      go true q =
          let same : peer ≡ port = eqb-true peer port q in
          ap (λ k. has_entry T k o) same ∙ own ∙ ap (λ k. has_entry S k o) (sym same)

  -- an effect to which nothing comes
  pub entries_of_effect : Passes port o n false e → (peer : ℕ) →
      has_entry (commit port e S) peer o ≡ has_entry S peer o
  entries_of_effect passes =
      by_peer (commit port e S)
      (entry_after port o apart e S n false here linked (λ c. absurd (no c)) passes
      ∙ entered_none port o apart S n here)
      (λ peer q. entry_stays port peer o e S apart q)
    where
      no : false ≡ true → ⊥
      no c = cc

  -- an effect to which an item comes, which is taken off
  pub entries_of_take : (from : ℕ) (item : Item) (w : List Item) →
      queue S from port ≡ Some (item ∷ w) → is_open n from ≡ true →
      Passes port o n (comes port o from item) e → (peer : ℕ) →
      has_entry (commit port e (change from (without_first port) S)) peer o
      ≡ has_entry S peer o
  entries_of_take from item w waits ends passes peer =
      let taken = left_off o port apart S n here from item w waits in
      ap (λ T. has_entry (commit port e T) peer o)
      (sym (off_is port from (item ∷ w) S waits))
      ∙ by_peer (commit port e taken)
      (entry_after port o apart e taken n (comes port o from item)
      (requeued from port port w S.stations ∙ here)
      (λ q. linked (sym (other_stays from port w S.stations port o.node apart) ∙ q))
      (reaches o port apart S n here from item w waits ends) passes
      ∙ own_off o port apart S n here from item w waits)
      (λ k q. entry_stays port k o e taken apart q
      ∙ others_off o port apart S n here from item w waits k q) peer
