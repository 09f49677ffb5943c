-- A record may have what a run shows, and the names of the node after it.
use Rattle.do_behave.specs.declared.act.Act.TheVariants as acts
use Rattle.do_behave.specs.declared.invocation.Reason.TheVariants as reasons
use Rattle.do_machine.specs.declared.item.Item.TheVariants as items
use Rattle.do_machine.specs.declared.verdict.Request.TheVariants as requests
use Rattle.std.proofs.Common.{List, [], arith, not, refl, true, ℕ, ◌+◌, ◌==◌, ◌∷◌, ◌≡◌}
use Rattle.std.specs.{List.AllByRecursion, Prelude.{None, Option, Some, option_map, slice_set, ◌≤◌}}
use Rattle.do_base.specs.declared.events.exception.Exc.{Exc, TheVariants.TooLarge}
use Rattle.do_base.specs.declared.values.value.Value.{Value, TheVariants.{Nil, Obj, Text}}
use Rattle.do_class.specs.declared.ids.ClassId.{ClassId}
use Rattle.do_record.specs.{GoodShown.{IsException, IsNested, IsShown}, Value.deepest}
use Rattle.do_behave.specs.{Answers.values_of, declared.act.{Act.Act, Write.Write}}
use Rattle.do_behave.specs.declared.invocation.Answer.{Answer, TheVariants.{Given, Raised}}
use Rattle.do_behave.specs.declared.invocation.{Handler.Handler, InvState.InvState}
use Rattle.do_behave.specs.declared.invocation.InvState.TheVariants.{Answered, Below, Running}
use Rattle.do_behave.specs.declared.invocation.{Invocation.Invocation, Reason.Reason}
use Rattle.do_machine.specs.{Context.{Context, RunContext}, Effect.{only, queueing}}
use Rattle.do_machine.specs.{Objects.object_at, Packing.packed_for, State.{is_open, own, stored}}
use Rattle.do_machine.specs.declared.{node.{Node.Node, Stored.Stored}, state.Effect.Effect}
use Rattle.do_machine.specs.declared.verdict.{Request.Request, SendAct.SendAct, Verdict.Verdict}
use Rattle.do_machine.specs.declared.verdict.Verdict.TheVariants.{Asks, Begins, Fails, Goes, Makes}
use Rattle.do_machine.specs.declared.verdict.Verdict.TheVariants.{Returns, Says, Steps, Tells, Uses}
use Rattle.do_machine.specs.{declared.verdict.Verdict.TheVariants.Vends, held.Refers.answer_values}
use Rattle.do_machine.specs.{held.Refers.state_values, lend.Lending.posting, run.Acts.act_rule}
use Rattle.do_machine.specs.run.Answers.{answer_line, answer_placed, exc_name, oneway_answer}
use Rattle.do_machine.specs.run.{Answers.replying, Changes.{goes_on, goes_to, stands, with_writes}}
use Rattle.do_machine.specs.run.Delivery.{below_answered, delivery, failing, popped, with_top}
use Rattle.do_machine.specs.run.{Fresh.blank, Run.{Acting, next_act, run_effect, run_on}}
use Rattle.do_machine.specs.run.{Run.{slots_seen, state_rule}, Verdicts.{effect_of, waits_for}}
use Rattle.do_facts.proofs.Chains.{either, found_or}
use Rattle.do_facts.proofs.EachOfLists.{each_changed, each_set, found_is}
use Rattle.do_facts.proofs.{RulesOfActs.{by_return, by_root, by_send, by_vend}, walk.Possible.IfAny}
use Rattle.do_limits.proofs.values.Carried.{carry-Nil}
use Rattle.do_limits.specs.{Sendable.AreSendable, SendableActs.{ActIsSendable, KeepsSendable}}
use Rattle.do_limits.specs.SendableStates.{HasSendableAnswer, InvocationIsSendable, NodeIsSendable}
use Rattle.do_limits.specs.SendableStates.{ObjectIsSendable}
use Rattle.do_at_hand.proofs.{Acts.{act_named, judged}, Changes.{VerdictIfWithin, VerdictWithin}}
use Rattle.do_at_hand.proofs.Changes.{answered_below, outs_set, slots_written, went_on}
use Rattle.do_at_hand.proofs.{Shown.{AllName, Names, nil, one, texts}, Within.InvocationWithin}
use Rattle.do_at_hand.{proofs.Within.{begins, blank_within}, specs.AtHand.ShowsNames}
use Rattle.do_showable.proofs.Naming.{exception_stands, is_nameable, named_at, raised_stands}
use Rattle.do_showable.proofs.{Naming.value_stands, Nodes.{IsNamed, made, restacked}}

-- A record may have the names of the node of an effect, and what it shows
pub record Stands (e : Effect) : Type 0 where
  pub named : IsNamed e.node
  pub shows : AllByRecursion IsShown e.shown

-- the node alone changes
alone : (n : Node) → IsNamed n → Stands (only n)
alone n h = record { named = h; shows = tt }

-- an answer that may be shown, and of whose objects a record may have the names
abbrev AnswerStands : Answer → Type 0
AnswerStands (Given v outs) =
    IsNested deepest v × (Names is_nameable v × AllName is_nameable outs)
AnswerStands (Raised e) = IsException e

-- what a verdict shows, or answers with
abbrev VerdictStands : Verdict → Type 0
VerdictStands (Says value pc) = IsNested deepest value
VerdictStands (Returns value outs) = IsNested deepest value
VerdictStands (Fails e) = IsException e
VerdictStands _ = Unit {0}

-- so it is with a verdict, where there is one
abbrev VerdictIfStands : Option Verdict → Type 0
VerdictIfStands None = Unit {0}
VerdictIfStands (Some v) = VerdictStands v

-- nil stands in a record
nil_stands : IsNested deepest Nil
nil_stands = value_stands Nil (carry-Nil 8) (nil is_nameable)

module _ (r : RunContext) (ok : IsNamed r.context.node)
    (room : r.context.node.next_serial + 4096 ≤ 9223372036854775808)
    (top : InvocationWithin is_nameable r.top)
    (below : AllByRecursion (InvocationWithin is_nameable) r.below) where
  -- the node
  abbrev n : Node
  n = r.context.node

  -- the node with another top invocation
  topped : (i : Invocation) → InvocationWithin is_nameable i → IsNamed (with_top r i)
  topped i h = restacked n (i ∷ r.below) ok (h, below)

  -- the node without it
  without_top : IsNamed (popped r)
  without_top = restacked n r.below ok below

  -- ---- answers

  -- an answer that goes back to a peer
  replies : (peer number : ℕ) (a : Answer) → Stands (replying r peer number a (popped r))
  replies peer number (Raised e) = record { named = without_top; shows = tt }
  replies peer number (Given v outs) =
      found_or Stands (packed_for r.context peer (answer_placed r v outs))
      (queueing peer (items.Raised number TooLarge) (popped r))
      (λ packet. posting peer packet (items.Reply number packet) (popped r))
      (record { named = without_top; shows = tt })
      (λ packet is. record { named = without_top; shows = tt })

  -- an answer that nobody waits for
  drops : (a : Answer) → AnswerStands a → Stands (oneway_answer a (popped r))
  drops (Given v outs) h = alone (popped r) without_top
  drops (Raised e) h = record { named = without_top; shows = (h, tt) }

  -- the line of an answer
  line_stands : (a : Answer) → AnswerStands a → IsShown (answer_line a)
  line_stands (Given v outs) h = h.0
  line_stands (Raised e) h = h

  -- the values of an answer
  answer_named : (a : Answer) → AnswerStands a → AllName is_nameable (answer_values a)
  answer_named (Given v outs) h = h.1
  answer_named (Raised e) h = tt

  -- an answer, wherever it goes
  delivers : (a : Answer) (reason : Reason) → AnswerStands a → Stands (delivery r a reason)
  delivers a reasons.Start h = record { named = without_top; shows = (line_stands a h, tt) }
  delivers a reasons.Local h =
      alone _ (restacked n (below_answered a r.below) ok
      (answered_below is_nameable a r.below (answer_named a h) below))
  delivers a (reasons.Oneway peer) h = drops a h
  delivers a (reasons.Call peer number) h =
      either Stands (not (is_open n peer)) (only (popped r)) (replying r peer number a (popped r))
      (λ _. alone (popped r) without_top) (λ _. replies peer number a)

  -- an exception, caught or not
  fails : (e : Exc) (handler : Option Handler) → IsException e → Stands (failing r e handler)
  fails e None h = delivers (Raised e) r.top.reason h
  fails e (Some k) h =
      alone _ (topped _ (went_on is_nameable k.into (Text (exc_name e)) k.pc r.top
      (texts is_nameable (exc_name e)) top))

  -- ---- verdicts

  -- the top invocation as it waits
  standing : (pc into : ℕ) (outs : List ℕ) (state : InvState) →
      AllName is_nameable (state_values state) →
      IsNamed (with_top r (stands pc into outs state r.top))
  standing pc into outs state h =
      topped _ (record { object = top.object; locals = top.locals; answer = h })

  -- a new object
  makes : (class : ClassId) (into pc : ℕ) → Stands (effect_of r (Makes class into pc))
  makes class into pc =
      let object = own n n.next_serial in
      let is = named_at n.port n.next_serial ok.home (ok.first, omega (arith, room)) in
      alone _ (made (blank r.context.table class ∷ [])
      (with_top r (goes_on into (Obj object) pc r.top))
      (blank_within is_nameable r.context.table class, tt)
      (topped _ (went_on is_nameable into (Obj object) pc r.top (one is_nameable object is) top))
      (omega (arith, room)))

  -- slots of an object are written
  writes_own : (pc : ℕ) (locals : List Value) (handler : Option Handler) (ws : List Write) →
      AllName is_nameable locals → AllByRecursion (λ w. Names is_nameable w.value) ws →
      Stands (effect_of r (Steps pc locals handler ws))
  writes_own pc locals handler ws h k =
      alone _ (record {
        home = ok.home;
        first = ok.first;
        own = each_changed (λ x. is_nameable (object_at n.port x.serial) ≡ true)
            (λ x. x.serial == r.top.object.serial) (with_writes ws) (λ x g. g) n.heap ok.own;
        slots = each_changed (λ x. AllName is_nameable x.slots)
            (λ x. x.serial == r.top.object.serial) (with_writes ws)
            (λ x g. slots_written is_nameable x.slots ws g k) n.heap ok.slots;
        calls = (record { object = top.object; locals = h; answer = top.answer }, below);
        roots = ok.roots;
      })

  -- a request to a peer
  asks : (peer : ℕ) (request : Request) (into : ℕ) (outs : List ℕ) (pc : ℕ) →
      Stands (effect_of r (Asks peer request into outs pc))
  asks peer requests.Root into outs pc = record {
    named = standing pc into outs (waits_for n peer requests.Root) tt;
    shows = tt;
  }
  asks peer (requests.Call method x) into outs pc = record {
    named = standing pc into outs (waits_for n peer (requests.Call method x)) tt;
    shows = tt;
  }

  -- the effect of each verdict
  verdict_effect : (v : Verdict) → VerdictWithin is_nameable n.port v → VerdictStands v →
      Stands (effect_of r v)
  verdict_effect (Goes into value pc) h k =
      alone _ (topped _ (went_on is_nameable into value pc r.top h top))
  verdict_effect (Uses result outs) h k =
      alone _ (topped _ (record {
        object = top.object;
        locals = outs_set is_nameable r.top.outs outs (slice_set r.top.locals r.top.into result) h.1
            (each_set (Names is_nameable) r.top.locals r.top.into result h.0 top.locals);
        answer = tt;
      }))
  verdict_effect (Steps pc locals handler writes) h k =
      writes_own pc locals handler writes h.0 h.1
  verdict_effect (Makes class into pc) h k = makes class into pc
  verdict_effect (Vends root pc) h k =
      let it = topped (goes_to pc r.top)
      (record { object = top.object; locals = top.locals; answer = top.answer }) in
      alone _ (record {
        home = it.home;
        first = it.first;
        own = it.own;
        slots = it.slots;
        calls = it.calls;
        roots = h;
      })
  verdict_effect (Says value pc) h k = record {
    named = topped (goes_to pc r.top)
        (record { object = top.object; locals = top.locals; answer = top.answer });
    shows = (k, tt);
  }
  verdict_effect (Asks peer request into outs pc) h k = asks peer request into outs pc
  verdict_effect (Begins o method values into outs pc) h k =
      let it = standing pc into outs Below tt in
      alone _ (restacked n _ ok
      (begins is_nameable o method reasons.Local values h.0 h.1, it.calls))
  verdict_effect (Tells peer m into pc) h k = record {
    named = topped _ (went_on is_nameable into Nil pc r.top (nil is_nameable) top);
    shows = tt;
  }
  verdict_effect (Returns result outs) h k = delivers (Given result outs) r.top.reason (k, h)
  verdict_effect (Fails e) h k = fails e r.top.handler k

  -- ---- acts

  -- what becomes of each act
  act_stands : (a : Act) → ActIsSendable r.context.table a → AllName is_nameable (values_of a) →
      VerdictStands (act_rule r a)
  act_stands (acts.Step pc locals handler writes) h k = tt
  act_stands (acts.New class into pc) h k = tt
  act_stands (acts.Send target selector args into from pc) h k =
      let x : SendAct = record {
        target = target;
        selector = selector;
        args = args;
        into = into;
        from = from;
        pc = pc;
      } in
      by_send VerdictStands r raised_stands x (record {
        goes = tt;
        begins = λ o m is mine. tt;
        tells = λ o m packet to. tt;
        asks = λ o m packet to. tt;
      })
  act_stands (acts.Root port into pc) h k =
      by_root VerdictStands r raised_stands port into pc tt (λ p ends. tt)
  act_stands (acts.Vend value pc) h k =
      by_vend VerdictStands r raised_stands value pc (λ root. tt)
  act_stands (acts.Say value pc) h k = value_stands value h.0.0 k.0
  act_stands (acts.Return value) h k =
      by_return VerdictStands r raised_stands value (λ s. nil_stands)
      (λ s. value_stands value h.0.0 k.0)
  act_stands (acts.Raise e) h k = exception_stands e h.1.1.1

  module _ (sends : InvocationIsSendable r.top)
      (heap : AllByRecursion (ObjectIsSendable r.context.table) n.heap) (act : Acting)
      (keeps : KeepsSendable r.context.table act) (names : ShowsNames r.context.table act) where
    -- the slots that the top invocation sees
    slots_there : AreSendable (slots_seen (stored r.top.object.serial n.heap))
    slots_there = go (stored r.top.object.serial n.heap) refl
      where
        go : (found : Option Stored) → stored r.top.object.serial n.heap ≡ found →
            AreSendable (slots_seen found)
        go None e = tt
        go (Some x) e =
            (found_is (ObjectIsSendable r.context.table) (λ x. x.serial == r.top.object.serial)
            n.heap x heap e).slots

    -- what the next act shows
    next_stands : VerdictStands (act_rule r (next_act act r))
    next_stands =
        act_stands (next_act act r)
        (keeps r.top (slots_seen (stored r.top.object.serial n.heap)) sends.locals sends.sixteen
        slots_there) (act_named is_nameable r top ok.roots ok.slots act names)

    -- what becomes of the top invocation, by its state
    state_stands : (state : InvState) → HasSendableAnswer state →
        VerdictIfStands (state_rule act r state)
    state_stands Running h = next_stands
    state_stands (Answered (Given v outs)) h = tt
    state_stands (Answered (Raised e)) h = exception_stands e h
    state_stands _ h = tt

    -- the effect of a verdict, where there is one
    effect_if : (v : Option Verdict) → VerdictIfWithin is_nameable n.port v → VerdictIfStands v →
        IfAny Stands (option_map (effect_of r) v)
    effect_if None h k = tt
    effect_if (Some v) h k = verdict_effect v h k

    -- what the state of the top invocation leads to
    pub stated : (state : InvState) → AllName is_nameable (state_values state) →
        HasSendableAnswer state → IfAny Stands (option_map (effect_of r) (state_rule act r state))
    stated state h k =
        effect_if (state_rule act r state)
        (judged is_nameable r top ok.roots ok.slots act names state h) (state_stands state k)

-- a run
pub run_stands : (act : Acting) (c : Context) → KeepsSendable c.table act →
    ShowsNames c.table act → NodeIsSendable c.table c.node.port c.node → IsNamed c.node →
    c.node.next_serial + 4096 ≤ 9223372036854775808 → IfAny Stands (run_effect act c)
run_stands act c keeps names sends ok room = on c.node.stack sends.stack ok.calls
  where
    on : (stack : List Invocation) → AllByRecursion InvocationIsSendable stack →
        AllByRecursion (InvocationWithin is_nameable) stack → IfAny Stands (run_on act c stack)
    on [] h k = tt
    on (i ∷ is) h k =
        stated (record { context = c; top = i; below = is }) ok room k.0 k.1 h.0 sends.heap act
        keeps names i.state k.0.answer h.0.answer
