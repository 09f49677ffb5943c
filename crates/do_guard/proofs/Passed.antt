-- A checker sends only what its class allows, to its target, and each denial raises its rule.
use Rattle.do_behave.specs.declared.act.Act.TheVariants as acts
use Rattle.std.proofs.Common.{◌≡◌, ◌∙◌, ◌==◌, ℕ, Bool, true, false, cond, List, [], ◌∷◌, ◌++◌}
use Rattle.std.proofs.Common.{filter, length, map, refl, sym, ap, subst, arith}
use Rattle.std.specs.Prelude.{None, Option, Some, codes, option_and_then, option_map, slice_get}
use Rattle.std.specs.{Prelude.unwrap_or, List.AllByRecursion, Str.bytes_eq}
use Rattle.std.proofs.lemmas.{Bool.eqb-true, List.{append-nil, append_assoc}}
use Rattle.do_base.specs.{names.Names.ObjectName, values.Kinds.object}
use Rattle.do_base.specs.declared.events.event.Event.TheVariants.{Run}
use Rattle.do_base.specs.declared.{events.exception.Exc.TheVariants.User, values.value.Value.Value}
use Rattle.do_class.specs.{Class.Class, Table.selector_of}
use Rattle.do_grammar.specs.Words.{◌>>?◌}
use Rattle.do_behave.specs.{Steps.or_fault, declared.{act.Act.Act, invocation.Answer.Answer}}
use Rattle.do_behave.specs.declared.invocation.Answer.TheVariants.{Given, Raised}
use Rattle.do_behave.specs.declared.invocation.{Invocation.Invocation, InvState.InvState}
use Rattle.do_behave.specs.declared.invocation.InvState.TheVariants.{Answered, Below, Running}
use Rattle.do_behave.specs.declared.invocation.InvState.TheVariants.{Waits}
use Rattle.do_native_acts.specs.{Places.selector_in, laws.KindLaws.object_read}
use Rattle.do_check.specs.{Acts.{check_act, target_in}, Rules.verdict_of, Sent.IsAllowed}
use Rattle.do_check.specs.declared.rules.{Rule.Rule, Verdict.TheVariants.{Deny, Forward}}
use Rattle.do_check.proofs.OnlyAllowed.{denial_raises, only_allowed_is_sent}
use Rattle.do_native.specs.{Acts.{acts_as, native_act}, declared.native.Native.Native}
use Rattle.do_machine.specs.declared.{item.Item.Item, node.Node.Node, state.Effect.Effect}
use Rattle.do_machine.specs.declared.{state.{Parcel.Parcel, State.State}, verdict.SendAct.SendAct}
use Rattle.do_machine.specs.{declared.verdict.Verdict.Verdict, Commit.{commit, items_to, moved}}
use Rattle.do_machine.specs.{Commit.skipped, Context.{RunContext, around, class_seen, context}}
use Rattle.do_machine.specs.{State.{node, queue, stored}, Step.{enabled_step, moved_by, step}}
use Rattle.do_machine.specs.{held.Leaving.{left, leaving}, run.{Acts.act_rule, Delivery.failing}}
use Rattle.do_machine.specs.run.Run.{Acting, answer_rule, next_act, run_effect, run_on, slots_seen}
use Rattle.do_machine.specs.run.{Run.state_rule, Verdicts.effect_of}
use Rattle.do_guard.specs.Checkers.{AddsOnly, IfMessage, IsOfCheckers, MaySend, RunsChecker}
use Rattle.do_guard.specs.Checkers.{SendsOnly}
use Rattle.do_facts.proofs.EachOfLists.{each_joined}
use Rattle.do_facts.proofs.RulesOfActs.{Sends, by_return, by_root, by_send, by_vend}
use Rattle.do_facts.proofs.{steps.OthersStay.move_leaves_own, methods.MethodsFound.method_found}
use Rattle.do_guard.proofs.Sent.{EffectSends, MaySendAll, VerdictSends, by_verdict}
use Rattle.do_objects.proofs.Finding.{there}

-- an invocation of a class of checkers acts by the rules of its class
acts_by_rules : (b : Native) (rules : List Rule) (table : List Class) (i : Invocation)
    (slots : List Value) → IsOfCheckers b i.method.class →
    slice_get b.rules i.method.class.0 ≡ Some rules →
    native_act b table i slots ≡ check_act rules table i slots
acts_by_rules b rules table i slots checker has =
    ap (λ kind. or_fault (kind >>? λ k. acts_as b k table i slots)) checker
    ∙ ap (λ found. or_fault (found >>? λ these. Some (check_act these table i slots))) has

-- a selector that is at hand is that of the method
at_hand : (sixteen : Bool) (found : Option (List ℕ)) (selector : List ℕ) →
    cond sixteen found None ≡ Some selector → found ≡ Some selector
at_hand true found selector h = h
at_hand false found selector h = absurd (cc)

module _ (rules : List Rule) (r : RunContext) where
  -- what the top invocation may send
  abbrev May : ObjectName → List ℕ → Type 0
  May = MaySend rules r.context.table r.context.node r.top

  -- a verdict that sends only that
  abbrev IsFair : Verdict → Type 0
  IsFair = VerdictSends May r.context.table

  -- the slots of its object
  abbrev slots : List Value
  slots = slots_seen (stored r.top.object.serial r.context.node.heap)

  -- what comes of a message that is allowed
  fair_sends : (x : SendAct) →
      selector_in r.context.table r.top ≡ Some x.selector →
      verdict_of rules x.selector ≡ Some Forward → target_in slots ≡ Some x.target →
      Sends IsFair r x
  fair_sends x hand allowed target = record {
    goes = tt;
    begins = λ o m is own. (
      x.selector,
      (method_found r.context.table (class_seen r.context o) x.selector m is.method).1,
      may o is.target,
    );
    tells = λ o m packet to. may o to.sent.target;
    asks = λ o m packet to. may o to.sent.target;
  }
    where
      may : (o : ObjectName) → object x.target ≡ Some o → May o x.selector
      may o is = record {
        called = at_hand (length r.top.locals == 16)
            (selector_of r.context.table r.top.method) x.selector hand;
        allowed = allowed;
        target = target ∙ ap (λ v. Some v) (sym (object_read x.target o is));
      }

  -- a verdict on an act that is allowed
  by_act : (a : Act) → IsAllowed rules r.context.table r.top slots a → IsFair (act_rule r a)
  by_act (acts.Step pc locals handler writes) h = tt
  by_act (acts.New class into pc) h = tt
  by_act (acts.Send target selector args into from pc) h =
      let x : SendAct = record {
        target = target;
        selector = selector;
        args = args;
        into = into;
        from = from;
        pc = pc;
      } in
      by_send IsFair r (λ e h. tt) x (fair_sends x h.0 h.1 h.2)
  by_act (acts.Root port into pc) h =
      by_root IsFair r (λ e h. tt) port into pc tt (λ port o. tt)
  by_act (acts.Vend value pc) h = by_vend IsFair r (λ e h. tt) value pc (λ root. tt)
  by_act (acts.Say value pc) h = tt
  by_act (acts.Return value) h = by_return IsFair r (λ e h. tt) value (λ s. tt) (λ s. tt)
  by_act (acts.Raise e) h = tt

  -- an answer sends nothing
  by_answer : (a : Answer) → IsFair (answer_rule a)
  by_answer (Given v outs) = tt
  by_answer (Raised e) = tt

  -- an effect that sends only that, where there is one
  abbrev FairIf : Option Effect → Type 0
  FairIf None = Unit {0}
  FairIf (Some e) = EffectSends May r.context.table (r.top ∷ r.below) e

  -- a run by the state of the top invocation
  by_state : (act : Acting) → IsAllowed rules r.context.table r.top slots (next_act act r) →
      (state : InvState) → FairIf (option_map (effect_of r) (state_rule act r state))
  by_state act h Running =
      by_verdict May r.context.table r (act_rule r (next_act act r)) (by_act (next_act act r) h)
  by_state act h Below = tt
  by_state act h (Waits call peer what) = tt
  by_state act h (Answered a) =
      by_verdict May r.context.table r (answer_rule a) (by_answer a)

module _ (Allow : ObjectName → List ℕ → Type 0) (table : List Class) (peer : ℕ) where
  -- items to a peer
  abbrev Fair : List Item → Type 0
  Fair waiting = AllByRecursion (IfMessage Allow peer) waiting

  -- what is sent to a peer
  to_peer : (sent : List Parcel) → MaySendAll Allow table sent → Fair (items_to peer sent)
  to_peer [] h = tt
  to_peer (p ∷ sent) h = by (p.to == peer) refl (to_peer sent h.1)
    where
      by : (b : Bool) → (p.to == peer) ≡ b → Fair (items_to peer sent) →
          Fair (map (λ x. x.item)
          (cond b (p ∷ filter (λ x. x.to == peer) sent) (filter (λ x. x.to == peer) sent)))
      by true e rest =
          (subst (λ q. IfMessage Allow q p.item) (eqb-true p.to peer e) h.0, rest)
      by false e rest = rest

  -- that an object was left is no message
  left_fair : (os : List ObjectName) → MaySendAll Allow table (map left os)
  left_fair [] = tt
  left_fair (o ∷ os) = (tt, left_fair os)

-- what is sent stands behind what waited
abbrev pub Grows : Type 0
Grows =
    (port to : ℕ) (e : Effect) (S : State) (waiting : List Item) →
    queue S port to ≡ Some waiting →
    queue (commit port e S) port to ≡ Some (waiting ++ items_to to e.sent)

module _ (grows : Grows) (Allow : ObjectName → List ℕ → Type 0) (table : List Class) (port : ℕ)
    (S : State) (n : Node) (at : node S port ≡ Some n) where
  module _ (e : Effect) (fair : EffectSends Allow table n.stack e) where
    -- the state that the effect leads to
    abbrev T : State
    T = commit port e S

    -- what the node then leaves
    abbrev d : Effect
    d = leaving (around T e.node).entry e.node

    -- what stands in a queue
    fair_queue : (peer : ℕ) (waiting : List Item) → queue S port peer ≡ Some waiting →
        AddsOnly Allow peer waiting (queue (moved port S e).state port peer)
    fair_queue peer waiting h = record {
      new = items_to peer e.sent ++ items_to peer d.sent;
      behind =
          grows port peer d T (waiting ++ items_to peer e.sent) (grows port peer e S waiting h)
          ∙ ap (λ all. Some all)
          (append_assoc waiting (items_to peer e.sent) (items_to peer d.sent));
      messages =
          each_joined (IfMessage Allow peer) (items_to peer e.sent) (items_to peer d.sent)
          (to_peer Allow table peer e.sent fair.sent)
          (to_peer Allow table peer d.sent (left_fair Allow table peer _));
    }

    -- an effect, and then the node leaves what nothing holds
    fair_moved : SendsOnly Allow table port S (moved port S e).state
    fair_moved = record {
      queued = fair_queue;
      begun = λ k m i below was now is longer.
          let before : n ≡ k = there (node S port) n k at was in
          let after : d.node ≡ m =
          there (node (moved port S e).state port) d.node m (move_leaves_own port n e S at) now in
          let stack : m.stack ≡ e.node.stack = ap (λ x. x.stack) (sym after) in
          fair.begun i below (sym stack ∙ is)
          (omega (arith, longer, ap (λ x. length x.stack) before, ap length stack));
    }

  -- nothing is done
  fair_skipped : SendsOnly Allow table port S S
  fair_skipped = record {
    queued = λ peer waiting h. record {
      new = [];
      behind = h ∙ ap (λ all. Some all) (sym (append-nil waiting));
      messages = tt;
    };
    begun = λ k m i below was now is longer.
        let same : k ≡ m = there (node S port) k m was now in
        absurd (omega (arith, longer, ap (λ x. length x.stack) same));
  }

module _ (b : Native) (rules : List Rule) (table : List Class) (S : State)
    (port : ℕ) (n : Node) (i : Invocation) (below : List Invocation)
    (runs : RunsChecker b rules S port n i below) where
  -- the run
  abbrev r : RunContext
  r = record { context = context table S n; top = i; below = below }

  -- the act that is at hand
  acts_so : next_act (native_act b) r ≡ check_act rules table i (slots rules r)
  acts_so = acts_by_rules b rules table i (slots rules r) runs.kind runs.listed

  -- what the run comes to
  abbrev result : Option Effect
  result = option_map (effect_of r) (state_rule (native_act b) r i.state)

  -- what the step comes to
  comes_to : enabled_step table (native_act b) S (Run port) ≡ moved_by port S result
  comes_to =
      ap (λ found. moved_by port S
      (option_and_then (λ m. run_effect (native_act b) (context table S m)) found)) runs.node
      ∙ ap (λ stack. moved_by port S (run_on (native_act b) (context table S n) stack)) runs.top

  -- what is sent where the run comes to this
  sent_by : Grows → (found : Option Effect) → FairIf rules r found →
      SendsOnly (May rules r) table port S (unwrap_or (moved_by port S found) (skipped S)).state
  sent_by grows None fair = fair_skipped grows (May rules r) table port S n runs.node
  sent_by grows (Some e) fair =
      fair_moved grows (May rules r) table port S n runs.node e
      (subst (λ stack. EffectSends (May rules r) table stack e) (sym runs.top) fair)

  -- a run of a checker sends only what it may
  pub sends_only : Grows → SendsOnly (MaySend rules table n i) table port S
      (step table (native_act b) S (Run port)).state
  sends_only grows =
      subst
      (λ found. SendsOnly (MaySend rules table n i) table port S
      (unwrap_or found (skipped S)).state)
      (sym comes_to)
      (sent_by grows result (by_state rules r (native_act b)
      (subst (IsAllowed rules table i (slots rules r)) (sym acts_so)
      (only_allowed_is_sent rules table i (slots rules r))) i.state))

  -- a run of a denied message raises the text of its rule
  pub raises : (selector text : List ℕ) → i.state ≡ Running →
      selector_in table i ≡ Some selector → bytes_eq selector (codes "guard:") ≡ false →
      verdict_of rules selector ≡ Some (Deny text) →
      enabled_step table (native_act b) S (Run port)
      ≡ Some (moved port S (failing r (User text) i.handler))
  raises selector text running hand other denied =
      comes_to
      ∙ ap (λ state. moved_by port S (option_map (effect_of r) (state_rule (native_act b) r state)))
      running
      ∙ ap (λ a. Some (moved port S (effect_of r (act_rule r a))))
      (acts_so ∙ denial_raises rules table i (slots rules r) selector text hand other denied)
