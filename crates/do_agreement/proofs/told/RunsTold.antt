-- What a run, a start or a time-out sends tells the classes that its node sees.
use Rattle.do_behave.specs.declared.act.Act.TheVariants as acts
use Rattle.do_behave.specs.declared.invocation.InvState.TheVariants as states
use Rattle.do_machine.specs.declared.verdict.Request.TheVariants as requests
use Rattle.std.{proofs.Common.{List, [], ◌∷◌}, specs.Prelude.{Option, option_map}}
use Rattle.do_behave.specs.declared.{act.Act.Act, invocation.Answer.{Answer, TheVariants.Given}}
use Rattle.do_behave.specs.declared.invocation.{Answer.TheVariants.Raised, Invocation.Invocation}
use Rattle.do_behave.specs.declared.invocation.{InvState.InvState, Reason.Reason}
use Rattle.do_machine.specs.declared.{state.Effect.Effect, verdict.SendAct.SendAct}
use Rattle.do_machine.specs.declared.verdict.Verdict.{Verdict, TheVariants.{Asks, Fails, Returns}}
use Rattle.do_machine.specs.{declared.verdict.Verdict.TheVariants.Tells, Context.Context}
use Rattle.do_machine.specs.{Context.RunContext, run.{Acts.act_rule, Answers.answer_placed}}
use Rattle.do_machine.specs.run.Run.{Acting, answer_rule, next_act, run_effect, run_on, state_rule}
use Rattle.do_machine.specs.run.{Send.arguments, Verdicts.effect_of}
use Rattle.do_facts.proofs.Deliveries.{Delivers, by_delivery, by_failing}
use Rattle.do_facts.proofs.RulesOfActs.{Sends, by_return, by_root, by_send, by_vend}
use Rattle.do_agreement.{specs.AreTold.AreTold, proofs.told.MessagesTold.{Told, packed_told}}
use Rattle.do_facts.proofs.walk.Possible.{IfAny}

-- what an effect of a node sends tells the classes that it sees, where there is one
abbrev pub ToldIf : Context → Option Effect → Type 0
ToldIf c = IfAny (λ e. AreTold c e.sent)

module _ (r : RunContext) where
  -- what the run is judged by
  abbrev c : Context
  c = r.context

  -- a message tells classes
  abbrev IsTold : Verdict → Type 0
  IsTold (Asks peer (requests.Call method m) into outs pc) = Told c m.packet.names
  IsTold (Tells peer m into pc) = Told c m.packet.names
  IsTold _ = Unit {0}

  -- what comes of a send
  sends : (x : SendAct) → Sends IsTold r x
  sends x = record {
    goes = tt;
    begins = λ o m is own. tt;
    tells = λ o m packet to.
        packed_told c o.node (arguments m.signature x) packet to.packed;
    asks = λ o m packet to. packed_told c o.node (arguments m.signature x) packet to.packed;
  }

  -- any act
  by_act : (act : Act) → IsTold (act_rule r act)
  by_act (acts.Send target selector args into from pc) =
      let x : SendAct = record {
        target = target;
        selector = selector;
        args = args;
        into = into;
        from = from;
        pc = pc;
      } in
      by_send IsTold r (λ e h. tt) x (sends x)
  by_act (acts.Root port into pc) = by_root IsTold r (λ e h. tt) port into pc tt (λ peer o. tt)
  by_act (acts.Vend value pc) = by_vend IsTold r (λ e h. tt) value pc (λ root. tt)
  by_act (acts.Return value) = by_return IsTold r (λ e h. tt) value (λ s. tt) (λ s. tt)
  by_act _ = tt

  -- an answer that is used
  by_answer : (a : Answer) → IsTold (answer_rule a)
  by_answer (Given v outs) = tt
  by_answer (Raised e) = tt

  -- what an effect sends tells classes
  abbrev Tell : Reason → Effect → Type 0
  Tell reason e = AreTold c e.sent

  -- what may come of an answer
  delivers : Delivers Tell r
  delivers = record {
    shown = λ a. tt;
    below = λ a. tt;
    unheard = λ peer. tt;
    told = λ peer e. tt;
    dropped = λ peer number o. tt;
    raised = λ peer number e o. (tt, tt);
    replied = λ peer number v outs packet o h.
        (packed_told c peer (answer_placed r v outs) packet h, tt);
    caught = λ e h. tt;
  }

  -- each verdict
  by_verdict : (v : Verdict) → IsTold v → AreTold c (effect_of r v).sent
  by_verdict (Asks peer requests.Root into outs pc) h = (tt, tt)
  by_verdict (Asks peer (requests.Call method m) into outs pc) h = (h, tt)
  by_verdict (Tells peer m into pc) h = (h, tt)
  by_verdict (Returns result outs) h =
      by_delivery Tell r delivers (Given result outs) r.top.reason
  by_verdict (Fails e) h = by_failing Tell r delivers e r.top.handler
  by_verdict _ h = tt

  -- the state of the top invocation
  by_state : (act : Acting) (state : InvState) →
      ToldIf c (option_map (effect_of r) (state_rule act r state))
  by_state act states.Running = by_verdict _ (by_act (next_act act r))
  by_state act (states.Answered a) = by_verdict _ (by_answer a)
  by_state act _ = tt

-- a run by the stack
run_told_on : (act : Acting) (c : Context) (stack : List Invocation) → ToldIf c (run_on act c stack)
run_told_on act c [] = tt
run_told_on act c (i ∷ is) =
    by_state (record { context = c; top = i; below = is }) act i.state

-- a run
pub run_told : (act : Acting) (c : Context) → ToldIf c (run_effect act c)
run_told act c = run_told_on act c c.node.stack
