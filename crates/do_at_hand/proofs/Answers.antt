-- A node that has an answer, or parts from a peer, names only objects that pass a test.
use Rattle.do_behave.specs.declared.invocation.Waited.TheVariants as waiteds
use Rattle.std.proofs.Common.{◌==◌, ◌&&◌, ℕ, Bool, true, false, cond, List, [], ◌∷◌, map}
use Rattle.std.specs.Prelude.{None, Option, Some}
use Rattle.do_base.specs.names.Names.{ObjectName}
use Rattle.do_base.specs.declared.events.exception.Exc.TheVariants.{ConnectionDied, TypeFault}
use Rattle.do_base.specs.declared.values.value.Value.{Value}
use Rattle.do_class.specs.{Class.Class, Table.signature_of}
use Rattle.do_sig.specs.{Calls.{encoding_fits, returned_fits}, Fits.each_takes}
use Rattle.do_sig.specs.declared.signature.Signature.{Signature}
use Rattle.do_behave.specs.declared.invocation.Answer.{Answer, TheVariants.{Given, Raised}}
use Rattle.do_behave.specs.declared.invocation.InvState.{InvState, TheVariants.{Answered, Waits}}
use Rattle.do_behave.specs.declared.invocation.Waited.{Waited}
use Rattle.do_machine.specs.{declared.node.Node.Node, ends.Closing.{died, parted, without_answer}}
use Rattle.do_machine.specs.{held.Refers.{answer_values, state_values}, run.Send.outs_of}
use Rattle.do_machine.specs.take.Awaiting.{AnsweredCall, answered_state, answering, awaits}
use Rattle.do_machine.specs.take.Awaiting.{method_answer, values_answer, with_answer}
use Rattle.do_facts.proofs.EachOfLists.{each_changed, each_mapped, each_weaker}
use Rattle.do_at_hand.proofs.{Shown.{AllName, Names}, Within.{InvocationWithin, NodeWithin}}

module _ (K : ObjectName → Bool) where
  -- an answer of values that fit, or the fault of type
  pub answer_by : (b : Bool) (v : Value) (vs : List Value) → Names K v → AllName K vs →
      AllName K (answer_values (cond b (Given v vs) (Raised TypeFault)))
  answer_by true v vs h k = (h, k)
  answer_by false v vs h k = tt

  -- values as an answer
  pub answers : (table : List Class) (values : List Value) → AllName K values → (what : Waited) →
      AllName K (answer_values (values_answer table values what))
  answers table [] h waiteds.Root = tt
  answers table [] h (waiteds.Method method) = tt
  answers table (v ∷ vs) h (waiteds.Method method) = go (signature_of table method)
    where
      go : (found : Option Signature) → AllName K (answer_values
          (elim found [ None ↦ Raised TypeFault | Some s ↦ method_answer s v vs ]))
      go None = tt
      go (Some s) =
          answer_by (returned_fits s v && each_takes (map encoding_fits (outs_of s s.args)) vs) v
          vs h.0 h.1
  answers table (v ∷ []) h waiteds.Root = (h.0, tt)
  answers table (v ∷ w ∷ vs) h waiteds.Root = tt

  -- an invocation that has its answer
  pub state_answered : (answer : Waited → Answer) →
      ((what : Waited) → AllName K (answer_values (answer what))) → (state : InvState) →
      AllName K (state_values state) → AllName K (state_values (answered_state answer state))
  state_answered answer h (Waits call peer what) k = h what
  state_answered answer h (Answered a) k = k
  state_answered answer h _ k = tt

  -- a node that has an answer
  pub answered : (k : AnsweredCall) (answer : Waited → Answer) →
      ((what : Waited) → AllName K (answer_values (answer what))) → (n : Node) →
      NodeWithin K n → NodeWithin K (answering k answer n).node
  answered k answer h n ok = record {
    heap = ok.heap;
    stack = each_changed (InvocationWithin K) (λ i. awaits k i.state) (with_answer answer)
        (λ i g. record {
          object = g.object;
          locals = g.locals;
          answer = state_answered answer h i.state g.answer;
        }) n.stack ok.stack;
    root = ok.root;
  }

  -- a state once an end closed
  pub state_died : (peer : ℕ) (state : InvState) → AllName K (state_values state) →
      AllName K (state_values (died peer state))
  state_died peer (Waits call p what) k = go (p == peer)
    where
      go : (b : Bool) → AllName K (state_values
          (cond b (Answered (Raised ConnectionDied)) (Waits call p what)))
      go true = tt
      go false = tt
  state_died peer (Answered a) k = k
  state_died peer _ k = tt

  -- a node that parts from a peer
  pub parts : (peer : ℕ) (n : Node) → NodeWithin K n → NodeWithin K (parted peer n)
  parts peer n ok = record {
    heap = ok.heap;
    stack = each_mapped (InvocationWithin K) (without_answer peer) n.stack
        (each_weaker (InvocationWithin K) (λ i. InvocationWithin K (without_answer peer i))
        (λ i g. record {
          object = g.object;
          locals = g.locals;
          answer = state_died peer i.state g.answer;
        }) n.stack ok.stack);
    root = ok.root;
  }
