-- A node that parts from a peer has only what a message can carry.
use Rattle.std.proofs.Common.{not, List, ◌==◌, ℕ, Bool, true, false, cond, refl, subst, sym}
use Rattle.do_base.specs.declared.events.exception.Exc.TheVariants.{ConnectionDied}
use Rattle.do_class.specs.Class.{Class}
use Rattle.do_behave.specs.declared.invocation.{Answer.TheVariants.Raised, InvState.InvState}
use Rattle.do_behave.specs.declared.invocation.InvState.TheVariants.{Answered, Waits}
use Rattle.do_machine.specs.declared.node.Node.{Node}
use Rattle.do_machine.specs.ends.Closing.{died, parted, without_answer, asked_of, closing}
use Rattle.do_facts.proofs.walk.SmallEffects.{settled_node}
use Rattle.do_limits.specs.SendableStates.{AsksForOne, HasSendableAnswer, HasSerial}
use Rattle.do_limits.specs.SendableStates.{InvocationIsSendable, NodeIsSendable}
use Rattle.do_facts.proofs.EachOfLists.{each_filtered, each_mapped, each_weaker}
use Rattle.do_limits.proofs.runs.Verdicts.{textless}

-- an invocation that loses a peer
state_died : (peer : ℕ) (state : InvState) → HasSendableAnswer state →
    HasSendableAnswer (died peer state)
state_died peer (Answered a) h = h
state_died peer (Waits call p what) h = go (p == peer)
  where
    go : (b : Bool) → HasSendableAnswer
        (cond b (Answered (Raised ConnectionDied)) (Waits call p what))
    go true = textless ConnectionDied refl
    go false = tt
state_died peer _ h = tt

-- a node that parts from a peer
pub parts : {table : List Class} {port : ℕ} → (peer : ℕ) (n : Node) → NodeIsSendable table port n →
    NodeIsSendable table port (parted peer n)
parts peer n h = record {
  heap = h.heap;
  stack = each_mapped InvocationIsSendable (without_answer peer) n.stack
      (each_weaker InvocationIsSendable (λ i. InvocationIsSendable (without_answer peer i))
      (λ i k. record {
        locals = k.locals;
        sixteen = k.sixteen;
        answer = state_died peer i.state k.answer;
      }) n.stack
      h.stack);
  numbers = (
    h.numbers.0,
    (
      h.numbers.1.0,
      (
        h.numbers.1.1.0,
        (
          each_filtered HasSerial (λ o. not (o.node == peer)) n.held h.numbers.1.1.1.0,
          each_filtered AsksForOne (λ w. not (w.object.node == peer)) n.asked h.numbers.1.1.1.1,
        ),
      ),
    ),
  );
}

-- one that closed its end
pub closes : {table : List Class} {port : ℕ} → (peer : ℕ) (n : Node) →
    NodeIsSendable table port n → NodeIsSendable table port (closing peer n).node
closes {table} {port} peer n h =
    subst (NodeIsSendable table port) (sym (settled_node (asked_of peer n) (parted peer n)))
    (parts peer n h)
