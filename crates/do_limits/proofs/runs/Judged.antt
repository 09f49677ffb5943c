-- What becomes of the top invocation has only what a message can carry.
use Rattle.std.proofs.Common.{subst, ◌≡◌, ◌==◌, refl}
use Rattle.do_limits.proofs.{Signatures.HasMethods, Senders.ContextIsSendable}
use Rattle.std.specs.Prelude.{None, Option, Some}
use Rattle.do_behave.specs.declared.invocation.Answer.TheVariants.{Given, Raised}
use Rattle.do_behave.specs.declared.invocation.InvState.{InvState, TheVariants.{Answered, Running}}
use Rattle.do_machine.specs.declared.{node.Stored.Stored, verdict.Verdict.Verdict}
use Rattle.do_machine.specs.{Context.RunContext, State.stored}
use Rattle.do_machine.specs.run.Run.{Acting, next_act, slots_seen, state_rule}
use Rattle.do_limits.specs.{Sendable.AreSendable, SendableActs.KeepsSendable}
use Rattle.do_limits.specs.SendableStates.{HasSendableAnswer, InvocationIsSendable}
use Rattle.do_limits.specs.SendableStates.{ObjectIsSendable}
use Rattle.do_facts.proofs.EachOfLists.{found_is}
use Rattle.do_limits.proofs.runs.ActRules.{act_sendable}
use Rattle.do_limits.proofs.runs.Verdicts.{VerdictIfSendable, VerdictIsSendable}

module _ (r : RunContext) (small : HasMethods r.context.table) (ok : ContextIsSendable r.context)
    (top : InvocationIsSendable r.top) where
  -- the slots that the top invocation sees
  slots_there : AreSendable (slots_seen (stored r.top.object.serial r.context.node.heap))
  slots_there = go (stored r.top.object.serial r.context.node.heap) refl
    where
      go : (found : Option Stored) → stored r.top.object.serial r.context.node.heap ≡ found →
          AreSendable (slots_seen found)
      go None e = tt
      go (Some x) e =
          (found_is (ObjectIsSendable r.context.table)
          (λ x. x.serial == r.top.object.serial) r.context.node.heap x ok.node.heap e).slots

  module _ (act : Acting) (acts : KeepsSendable r.context.table act) where
    -- by its state
    judged : (state : InvState) → HasSendableAnswer state →
        VerdictIfSendable r.context.table r.context.node.port (state_rule act r state)
    judged Running h =
        act_sendable r small ok top.locals (next_act act r)
        (acts r.top (slots_seen (stored r.top.object.serial r.context.node.heap)) top.locals
        top.sixteen slots_there)
    judged (Answered (Given v outs)) h = h
    judged (Answered (Raised e)) h = h
    judged _ h = tt

    -- by a verdict that was given
    pub verdict_sendable : (v : Verdict) → state_rule act r r.top.state ≡ Some v →
        VerdictIsSendable r.context.table r.context.node.port v
    verdict_sendable v given =
        subst (VerdictIfSendable r.context.table r.context.node.port) given
        (judged r.top.state top.answer)
