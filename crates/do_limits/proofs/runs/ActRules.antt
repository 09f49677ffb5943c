-- What becomes of acts whose values can be carried.
use Rattle.do_base.specs.declared.events.exception.Exc.TheVariants as excs
use Rattle.do_behave.specs.declared.act.Act.TheVariants as acts
use Rattle.std.{proofs.Common.{arith, length, map, refl, ◌≤◌}, specs.Prelude.{true, ◌≡◌}}
use Rattle.do_base.specs.{names.Names.ObjectName, declared.events.exception.Exc.Exc}
use Rattle.do_class.specs.declared.packet.Packet.{Packet}
use Rattle.do_sig.specs.{Calls.{is_oneway, qualifiers_of}, declared.signature.Signature.Signature}
use Rattle.do_behave.specs.declared.act.Act.{Act}
use Rattle.do_machine.specs.declared.verdict.{SendAct.SendAct, Verdict.Verdict}
use Rattle.do_machine.specs.{Context.{Found, RunContext, class_seen}, run.Acts.act_rule}
use Rattle.do_machine.specs.run.Send.{arguments, inputs, message, outs_of}
use Rattle.do_facts.proofs.{EachOfLists.{each_former, each_latter, each_zipped}, RulesOfActs.IsFor}
use Rattle.do_facts.proofs.RulesOfActs.{IsToPeer, Sends, by_return, by_root, by_send, by_vend}
use Rattle.do_facts.proofs.{RulesOfActs.is_raised, methods.FewArguments.{found_few, inputs_length}}
use Rattle.do_limits.specs.Sendable.{AreSendable, IsSendable, IsSendableExc}
use Rattle.do_limits.specs.{SendableActs.ActIsSendable, SendableStates.MessageIsSendable}
use Rattle.do_limits.proofs.Senders.{ContextIsSendable, class_known}
use Rattle.do_limits.proofs.Signatures.{HasMethods, few_marks, found_class}
use Rattle.do_limits.proofs.{values.Carried.carry-Nil, runs.Verdicts.VerdictIsSendable}
use Rattle.do_limits.proofs.runs.Verdicts.{few_places, inputs_sendable, message_sendable}
use Rattle.do_limits.proofs.runs.Verdicts.{outs_sendable, root_sendable, textless, written_values}

-- an exception that a rule raises has no text
pub raised : (e : Exc) → is_raised e ≡ true → IsSendableExc e
raised excs.TypeFault h = textless excs.TypeFault refl
raised excs.Range h = textless excs.Range refl
raised excs.Deep h = textless excs.Deep refl
raised excs.NotUnderstood h = textless excs.NotUnderstood refl
raised excs.ConnectionDied h = textless excs.ConnectionDied refl
raised excs.NotVended h = textless excs.NotVended refl
raised excs.TooLarge h = textless excs.TooLarge refl
raised excs.TimedOut h = textless excs.TimedOut refl
raised (excs.User text) h = absurd (cc (h))

module _ (r : RunContext) (small : HasMethods r.context.table)
    (ok : ContextIsSendable r.context) (locals : AreSendable r.top.locals) where
  -- a verdict of this node has such values
  abbrev Ok : Verdict → Type 0
  Ok v = VerdictIsSendable r.context.table r.context.node.port v

  -- the method of a send takes few arguments
  takes_few : (x : SendAct) (o : ObjectName) (m : Found) → IsFor r x o m →
      length m.signature.args ≤ 8
  takes_few x o m is =
      found_few r.context.table small.few (class_seen r.context o) x.selector m is.method

  -- what a send says to its target
  says : (x : SendAct) → AreSendable x.args → (o : ObjectName) (m : Found) (packet : Packet) →
      IsToPeer r x o m packet →
      MessageIsSendable r.context.table r.context.node.port o.node (message o x packet)
  says x h o m packet to =
      let class = class_seen r.context o in
      let there = found_class r.context.table class x.selector m to.sent.method in
      let marks = map (λ q. q.copy) (qualifiers_of m.signature) in
      record {
        target = (class_known r.context ok o there.0 there.1).1.0;
        selector = small.selects class x.selector m to.sent.method;
        packet = message_sendable r.context ok o.node (arguments m.signature x)
            (each_zipped IsSendable marks (inputs m.signature x)
            (inputs_sendable m.signature.args x.args h))
            (few_places marks (inputs m.signature x)
            (few_marks m.signature (takes_few x o m to.sent)))
            packet to.packed;
      }

  -- what may come of a send
  sends : (x : SendAct) → AreSendable x.args → Sends Ok r x
  sends x h = record {
    goes = carry-Nil 8;
    begins = λ o m is own. (
      inputs_sendable m.signature.args x.args h,
      omega (arith, takes_few x o m is, inputs_length m.signature.args x.args),
    );
    tells = says x h;
    asks = says x h;
  }

  -- the values of locals that come out
  come_out : (s : Signature) → AreSendable (outs_of s r.top.locals)
  come_out s = outs_sendable (is_oneway s) s.args r.top.locals locals

  -- each act
  pub act_sendable : (a : Act) → ActIsSendable r.context.table a → Ok (act_rule r a)
  act_sendable (acts.Step pc after handler writes) h = (
    each_former IsSendable after (map (λ w. w.value) writes) h.0,
    (
      h.1.0,
      written_values writes (each_latter IsSendable after (map (λ w. w.value) writes) h.0),
    ),
  )
  act_sendable (acts.New class into pc) h = h.1.1.0
  act_sendable (acts.Send target selector args into from pc) h =
      let x : SendAct = record {
        target = target;
        selector = selector;
        args = args;
        into = into;
        from = from;
        pc = pc;
      } in
      by_send Ok r raised x (sends x h.0.1)
  act_sendable (acts.Root port into pc) h =
      by_root Ok r raised port into pc (root_sendable r.context.node) (λ port o. tt)
  act_sendable (acts.Vend value pc) h = by_vend Ok r raised value pc (λ root. tt)
  act_sendable (acts.Say value pc) h = tt
  act_sendable (acts.Return value) h =
      by_return Ok r raised value (λ s. (carry-Nil 8, come_out s)) (λ s. (h.0.0, come_out s))
  act_sendable (acts.Raise e) h = h.1.1.1
