-- A node's entries change by its own steps alone.
use Rattle.std.proofs.Common.{◌≡◌, ◌==◌, ℕ, Bool, true, false, List, ◌∷◌, ap, refl, sym, subst, ◌∙◌}
use Rattle.std.{proofs.Common.arith, specs.Prelude.{None, Some}, proofs.lemmas.Bool.eqb-true}
use Rattle.do_base.specs.{names.Names.ObjectName, declared.events.event.Event.Event}
use Rattle.do_base.specs.declared.events.event.Event.TheVariants.{Close}
use Rattle.do_class.specs.Class.{Class}
use Rattle.do_machine.specs.declared.{item.Item.Item, node.Node.Node, state.Effect.Effect}
use Rattle.do_machine.specs.{declared.state.{State.State, Stepped.Stepped}, Commit.{commit, moved}}
use Rattle.do_machine.specs.{Context.{around, context}, Entry.has_entry}
use Rattle.do_machine.specs.{State.{is_open, node, queue}, Step.step, held.Leaving.leaving}
use Rattle.do_machine.specs.{run.Run.Acting, take.Take.take_effect}
use Rattle.do_facts.specs.laws.{Entries.{HasQueues, IsNoStepOf}, Follows.{AllHoldOpen, Grows}}
use Rattle.do_facts.specs.{laws.Follows.HoldsOpen, steps.IsStep.{Acts, Checks, IsRuleOf, IsStep}}
use Rattle.do_facts.specs.steps.IsStep.{Loses, Skips, Takes, without_oldest}
use Rattle.do_facts.proofs.machine.follows.{States.{changed, requeued}, Steps.rule_grows}
use Rattle.do_facts.proofs.machine.passing.Closes.{passes_closing}
use Rattle.do_facts.proofs.machine.passing.Commits.{Entered, entered_none, entry_after}
use Rattle.do_facts.proofs.machine.passing.{EntriesOff.{own_off, reaches}, Leaves.passes_leaving}
use Rattle.do_facts.proofs.machine.passing.{Linked.commit_leaves, Lookups.other_stays}
use Rattle.do_facts.proofs.machine.passing.{Passes.{Passes, passes_quiet}, Quiet.rule_quiet}
use Rattle.do_facts.proofs.{machine.passing.Takes.{comes, passes_take}, steps.EachIsStep.step_is}
use Rattle.do_facts.proofs.steps.{EntriesOfSteps.entry_stays, OthersStay.{apart_act, no_act}}
use Rattle.do_facts.proofs.machine.follows.SteadyTakes.{by_take}

module _ (o : ObjectName) (port : ℕ) (apart : (o.node == port) ≡ false) where
  module _ (S : State) (e : Effect) (n : Node) (came : Bool) (here : node S port ≡ Some n)
      (linked : queue S port o.node ≡ None → is_open n o.node ≡ false)
      (arrives : came ≡ true → is_open n o.node ≡ true)
      (grows : Grows n e.node) (held : HoldsOpen n) (passes : Passes port o n came e) where
    -- the entry of the node that moves
    own_moved : has_entry (moved port S e).state port o ≡ Entered port o apart S n came
    own_moved =
        let T = commit port e S in
        let entry = (around T e.node).entry in
        let there = changed port e n S.stations here in
        entry_after port o apart (leaving entry e.node) T e.node false there
        (λ q. grind (arith, linked (commit_leaves port e S port o.node q), grows.ends o.node))
        (λ c. absurd (cc (c))) (passes_leaving port o entry e.node (grows.holding held))
        ∙ entered_none port o apart T e.node there
        ∙ entry_after port o apart e S n came here linked arrives passes

  module _ (S : State) (held : AllHoldOpen S) (queues : HasQueues S) (n : Node)
      (here : node S port ≡ Some n) where
    -- the effect of an event's rule passes on what the node holds
    rule_passes : (table : List Class) (act : Acting) (event : Event) (e : Effect) →
        IsRuleOf table act S event n e → Passes port o n false e
    rule_passes table act (Close p peer) e rule =
        subst (Passes port o n false) (sym rule.1) (passes_closing port o peer n rule.0)
    rule_passes table act event e rule =
        passes_quiet port o n e (rule_quiet table act S event n e rule refl)

    -- the entry of the node that acts stays
    own_acts : (table : List Class) (act : Acting) (event : Event) (e : Effect) →
        IsRuleOf table act S event n e →
        has_entry (moved port S e).state port o ≡ has_entry S port o
    own_acts table act event e rule =
        own_moved S e n false here (queues.closed port o.node n here) (λ c. absurd (cc (c)))
        (rule_grows table act S event n e rule) (held.each port n here)
        (rule_passes table act event e rule)
        ∙ entered_none port o apart S n here

    module _ (table : List Class) (from : ℕ) (item : Item) (rest : List Item)
        (ends : is_open n from ≡ true) (waits : queue S from port ≡ Some (item ∷ rest)) where
      -- the entry of the node that takes stays
      own_takes :
          let T = without_oldest S from port rest in
          has_entry (moved port T (take_effect (context table T n) from item)).state port o
          ≡ has_entry S port o
      own_takes =
          let T = without_oldest S from port rest in
          let c = context table T n in
          own_moved T (take_effect c from item) n (comes port o from item)
          (requeued from port port rest S.stations ∙ here)
          (λ q. queues.closed port o.node n here
          (sym (other_stays from port rest S.stations port o.node apart) ∙ q))
          (reaches o port apart S n here from item rest waits ends)
          (by_take c from item ends).grows (held.each port n here)
          (passes_take port o from c item ends)
          ∙ own_off o port apart S n here from item rest waits

module _ (table : List Class) (act : Acting) (S : State) (event : Event) (peer : ℕ)
    (o : ObjectName) (held : AllHoldOpen S) (queues : HasQueues S)
    (home : IsNoStepOf o.node event) where
  -- the entry is as it was
  abbrev Same : State → Type 0
  Same T = has_entry T peer o ≡ has_entry S peer o

  -- of the entry of a node that moves, and of that of another
  moves_so : (port : ℕ) (T : Stepped) → IsStep table act S event T →
      ((peer == port) ≡ false → IsNoStepOf peer event) →
      has_entry T.state port o ≡ has_entry S port o → Same T.state
  moves_so port T is other own = go (peer == port) refl
    where
      go : (b : Bool) → (peer == port) ≡ b → Same T.state
      go false q = entry_stays S event T is peer o home (other q)
      go true q =
          subst (λ k. has_entry T.state k o ≡ has_entry S k o) (sym (eqb-true peer port q)) own

  -- each form of a step
  by_form : (s : Stepped) → IsStep table act S event s → Same s.state
  by_form s (Skips e) = ap (λ x. has_entry x.state peer o) e
  by_form s (Acts port n d own here rule e) =
      subst (λ x. Same x.state) (sym e)
      (moves_so port (moved port S d) (Acts port n d own here rule refl)
      (no_act event port peer own)
      (own_acts o port (apart_act event port o.node own home) S held queues n here table act event d
      rule))
  by_form s (Takes port from n item rest d is here rule waits e) =
      let T = without_oldest S from port rest in
      subst (λ x. Same x.state) (sym e)
      (moves_so port (moved port T d) (Takes port from n item rest d is here rule waits refl)
      (subst (IsNoStepOf peer) (sym is))
      (subst (λ x. has_entry (moved port T x).state port o ≡ has_entry S port o) (sym rule.1)
      (own_takes o port (subst (IsNoStepOf o.node) is home) S held queues n here table from item
      rest rule.0 waits)))
  by_form s (Loses from to k waiting is waits few e) =
      entry_stays {table = table} {act = act} S event s
      (Loses from to k waiting is waits few e) peer o home (subst (IsNoStepOf peer) (sym is) tt)
  by_form s (Checks is e) = ap (λ x. has_entry x.state peer o) e

-- an event that is no step of the home leaves its entries as they were
pub entries_stay : (table : List Class) (act : Acting) (S : State) (event : Event) (peer : ℕ)
    (o : ObjectName) → AllHoldOpen S → HasQueues S → IsNoStepOf o.node event →
    has_entry (step table act S event).state peer o ≡ has_entry S peer o
entries_stay table act S event peer o held queues home =
    by_form table act S event peer o held queues home (step table act S event)
    (step_is S table act event)
