-- What an act comes to names only objects that pass a test, where what it was shown does.
use Rattle.do_behave.specs.declared.act.Act.TheVariants as acts
use Rattle.std.proofs.Common.{◌≡◌, ◌==◌, ℕ, Bool, true, not, List, map, refl, subst}
use Rattle.std.specs.{Prelude.{None, Option, Some}, List.AllByRecursion}
use Rattle.std.proofs.lemmas.{Bool.eqb-true, List.Elements.recursion_from_All}
use Rattle.do_base.specs.{names.Names.ObjectName, values.Kinds.{is_nil, object}}
use Rattle.do_base.specs.declared.events.exception.Exc.TheVariants.{TypeFault}
use Rattle.do_base.specs.declared.values.value.Value.{Value, TheVariants.{Nil, Obj}}
use Rattle.do_sig.specs.{Calls.is_oneway, declared.signature.Signature.Signature}
use Rattle.do_behave.specs.Answers.{NamesOnly, NamesShown, objects_named, values_of}
use Rattle.do_behave.specs.declared.{act.Act.Act, invocation.Answer.TheVariants.{Given, Raised}}
use Rattle.do_behave.specs.declared.invocation.InvState.{InvState, TheVariants.{Answered, Running}}
use Rattle.do_machine.specs.declared.{node.{Node.Node, Stored.Stored}, verdict.SendAct.SendAct}
use Rattle.do_machine.specs.declared.verdict.Verdict.{Verdict, TheVariants.{Fails, Vends}}
use Rattle.do_machine.specs.{Context.RunContext, Objects.object_at, State.{is_own, own, stored}}
use Rattle.do_machine.specs.{held.Refers.state_values, run.Acts.{act_rule, vend_rule}}
use Rattle.do_machine.specs.run.{Run.{Acting, next_act, slots_seen, state_rule}, Send.outs_of}
use Rattle.do_facts.proofs.Chains.{either, found_or, not_closed}
use Rattle.do_facts.proofs.EachOfLists.{each_former, each_joined, each_latter, found_is}
use Rattle.do_facts.proofs.RulesOfActs.{Sends, by_return, by_root, by_send}
use Rattle.do_at_hand.specs.AtHand.{ShowsNames}
use Rattle.do_at_hand.proofs.Shown.{AllName, Names, all_from_named, flat, nil, of_object, one}
use Rattle.do_at_hand.proofs.{Within.{InvocationWithin, RootWithin}, Changes.VerdictIfWithin}
use Rattle.do_at_hand.proofs.Changes.{VerdictWithin, inputs_named, outs_named, written_values}

module _ (H : ObjectName → Bool) (r : RunContext) (top : InvocationWithin H r.top)
    (root : RootWithin H r.context.node.port r.context.node.root) where
  -- the node
  abbrev n : Node
  n = r.context.node

  -- a verdict of this node
  abbrev Fine : Verdict → Type 0
  Fine v = VerdictWithin H n.port v

  -- what may come of a send
  sends : (x : SendAct) → Names H x.target → AllName H x.args → Sends Fine r x
  sends x target args = record {
    goes = nil H;
    begins = λ o m is mine.
        (of_object H x.target o target is.target, inputs_named H m.signature.args x.args args);
    tells = λ o m packet to. tt;
    asks = λ o m packet to. tt;
  }

  -- the root
  root_named : (root : Option ℕ) → RootWithin H n.port root →
      Names H (elim root [ None ↦ Nil | Some serial ↦ Obj (own n serial) ])
  root_named None h = nil H
  root_named (Some s) h = one H (own n s) h

  -- a value that is vended
  vends : (value : Value) (pc : ℕ) → Names H value → Fine (vend_rule r value pc)
  vends value pc h =
      either Fine (is_nil value) (Vends None pc) _ (λ _. tt)
      (λ _. found_or Fine (object value) (Fails TypeFault) _ tt
      (λ o is. either Fine (not (is_own n o)) (Fails TypeFault) (Vends (Some o.serial) pc)
      (λ _. tt)
      (λ mine. subst (λ p. H (object_at p o.serial) ≡ true)
      (eqb-true o.node n.port (not_closed (is_own n o) mine)) (of_object H value o h is))))

  -- the values of locals that come out
  come_out : (s : Signature) → AllName H (outs_of s r.top.locals)
  come_out s = outs_named H (is_oneway s) s.args r.top.locals top.locals

  -- each act
  act_fine : (a : Act) → AllName H (values_of a) → Fine (act_rule r a)
  act_fine (acts.Step pc after handler writes) h = (
    each_former (Names H) after (map (λ w. w.value) writes) h,
    written_values H writes (each_latter (Names H) after (map (λ w. w.value) writes) h),
  )
  act_fine (acts.New class into pc) h = tt
  act_fine (acts.Send target selector args into from pc) h =
      let x : SendAct = record {
        target = target;
        selector = selector;
        args = args;
        into = into;
        from = from;
        pc = pc;
      } in
      by_send Fine r (λ e is. tt) x (sends x h.0 h.1)
  act_fine (acts.Root port into pc) h =
      by_root Fine r (λ e is. tt) port into pc (root_named n.root root) (λ port o. tt)
  act_fine (acts.Vend value pc) h = vends value pc h.0
  act_fine (acts.Say value pc) h = tt
  act_fine (acts.Return value) h =
      by_return Fine r (λ e is. tt) value (λ s. (nil H, come_out s)) (λ s. (h.0, come_out s))
  act_fine (acts.Raise e) h = tt

  -- what was shown passes, and so does what an act names
  shown_named : (slots : List Value) → AllName H slots → (a : Act) → NamesShown r.top slots a →
      AllName H (values_of a)
  shown_named slots h a shows =
      all_from_named H (objects_named r.top slots)
      (top.object, flat H _ (each_joined (Names H) r.top.locals slots top.locals h)) (values_of a)
      (recursion_from_All (NamesOnly (objects_named r.top slots)) (values_of a) shows.objects)

  module _ (heap : AllByRecursion (λ x. AllName H x.slots) n.heap) (act : Acting)
      (shows : ShowsNames r.context.table act) where
    -- the slots that the top invocation sees
    slots_there : AllName H (slots_seen (stored r.top.object.serial n.heap))
    slots_there = go (stored r.top.object.serial n.heap) refl
      where
        go : (found : Option Stored) → stored r.top.object.serial n.heap ≡ found →
            AllName H (slots_seen found)
        go None e = tt
        go (Some x) e =
            found_is (λ x. AllName H x.slots) (λ x. x.serial == r.top.object.serial) n.heap x
            heap e

    -- what the next act names
    pub act_named : AllName H (values_of (next_act act r))
    act_named =
        let slots = slots_seen (stored r.top.object.serial n.heap) in
        shown_named slots slots_there (next_act act r) (shows r.top slots)

    -- what becomes of the top invocation, by its state
    pub judged : (state : InvState) → AllName H (state_values state) →
        VerdictIfWithin H n.port (state_rule act r state)
    judged Running h = act_fine (next_act act r) act_named
    judged (Answered (Given v outs)) h = h
    judged (Answered (Raised e)) h = tt
    judged _ h = tt
