-- An answer that a node takes has only what a message can carry.
use Rattle.do_behave.specs.declared.invocation.Waited.TheVariants as waiteds
use Rattle.std.proofs.Common.{◌&&◌, Bool, true, false, cond, List, [], ◌∷◌, map, refl}
use Rattle.std.specs.Prelude.{None, Option, Some, ℕ}
use Rattle.do_base.specs.declared.events.exception.Exc.TheVariants.{TypeFault}
use Rattle.do_base.specs.declared.values.value.Value.{Value}
use Rattle.do_class.specs.{Class.Class, Table.signature_of}
use Rattle.do_sig.specs.{Calls.{encoding_fits, returned_fits}, Fits.each_takes}
use Rattle.do_sig.specs.declared.signature.Signature.{Signature}
use Rattle.do_behave.specs.declared.invocation.Answer.{Answer, TheVariants.{Given, Raised}}
use Rattle.do_behave.specs.declared.invocation.InvState.{InvState, TheVariants.{Answered, Waits}}
use Rattle.do_behave.specs.declared.invocation.Waited.{Waited}
use Rattle.do_machine.specs.{declared.node.Node.Node, run.Send.outs_of}
use Rattle.do_machine.specs.take.Awaiting.{AnsweredCall, answered_state, answering, awaits}
use Rattle.do_machine.specs.take.Awaiting.{method_answer, values_answer, with_answer}
use Rattle.do_limits.specs.{Sendable.{AreSendable, IsSendable}, SendableStates.AnswerIsSendable}
use Rattle.do_limits.specs.SendableStates.{HasSendableAnswer, InvocationIsSendable, NodeIsSendable}
use Rattle.do_limits.proofs.{Lists.each_changed, runs.Verdicts.textless}

-- an answer of values that fit, or the fault of type
answer_by : (b : Bool) (v : Value) (vs : List Value) → IsSendable v → AreSendable vs →
    AnswerIsSendable (cond b (Given v vs) (Raised TypeFault))
answer_by true v vs h k = (h, k)
answer_by false v vs h k = textless TypeFault refl

-- values as an answer
pub answers : (table : List Class) (values : List Value) → AreSendable values → (what : Waited) →
    AnswerIsSendable (values_answer table values what)
answers table [] h waiteds.Root = textless TypeFault refl
answers table [] h (waiteds.Method method) = textless TypeFault refl
answers table (v ∷ vs) h (waiteds.Method method) = go (signature_of table method)
  where
    go : (found : Option Signature) → AnswerIsSendable
        (elim found [ None ↦ Raised TypeFault | Some s ↦ method_answer s v vs ])
    go None = textless TypeFault refl
    go (Some s) =
        answer_by (returned_fits s v && each_takes (map encoding_fits (outs_of s s.args)) vs) v vs
        h.0 h.1
answers table (v ∷ []) h waiteds.Root = (h.0, tt)
answers table (v ∷ w ∷ vs) h waiteds.Root = textless TypeFault refl

-- an invocation that has its answer
state_answered : (answer : Waited → Answer) → ((what : Waited) → AnswerIsSendable (answer what)) →
    (state : InvState) → HasSendableAnswer state →
    HasSendableAnswer (answered_state answer state)
state_answered answer h (Waits call peer what) k = h what
state_answered answer h (Answered a) k = k
state_answered answer h _ k = tt

-- a node that has an answer
pub answered : {table : List Class} {port : ℕ} → (k : AnsweredCall) (answer : Waited → Answer) →
    ((what : Waited) → AnswerIsSendable (answer what)) → (n : Node) → NodeIsSendable table port n →
    NodeIsSendable table port (answering k answer n).node
answered k answer h n ok = record {
  heap = ok.heap;
  stack = each_changed InvocationIsSendable (λ i. awaits k i.state) (with_answer answer)
      (λ i e g. record {
        locals = g.locals;
        sixteen = g.sixteen;
        answer = state_answered answer h i.state g.answer;
      }) n.stack ok.stack;
  numbers = ok.numbers;
}
