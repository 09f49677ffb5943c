-- What a run makes of invocations and slots has only what a message can carry.
use Rattle.std.proofs.Common.{length, ◌∙◌, subst, sym, ◌≡◌, ◌==◌, ℕ, List, [], ◌∷◌, refl}
use Rattle.std.proofs.lemmas.List.{length-set}
use Rattle.do_class.specs.Class.{Class}
use Rattle.std.specs.{Prelude.slice_set, List.AllByRecursion}
use Rattle.do_base.specs.declared.values.value.Value.{Value}
use Rattle.do_behave.specs.{InPlace.written, declared.{act.Write.Write, invocation.Answer.Answer}}
use Rattle.do_behave.specs.declared.invocation.Invocation.{Invocation}
use Rattle.do_machine.specs.{declared.node.Node.Node, run.Changes.{goes_on, with_outs, with_slots}}
use Rattle.do_machine.specs.run.{Changes.with_writes, Delivery.below_answered}
use Rattle.do_limits.specs.Sendable.{AreSendable, HasSlots, IsSendable}
use Rattle.do_limits.specs.SendableStates.{AnswerIsSendable, InvocationIsSendable, NodeIsSendable}
use Rattle.do_limits.specs.SendableStates.{ObjectIsSendable}
use Rattle.do_facts.proofs.EachOfLists.{each_set}
use Rattle.do_limits.proofs.Lists.{each_changed}

-- an invocation that goes on with a value in a local
pub went_on : (into : ℕ) (v : Value) (pc : ℕ) (i : Invocation) → IsSendable v →
    InvocationIsSendable i → InvocationIsSendable (goes_on into v pc i)
went_on into v pc i h k =
    record {
      locals = each_set IsSendable i.locals into v h k.locals;
      sixteen = length-set i.locals into v ∙ k.sixteen;
      answer = tt;
    }

-- locals with out values
pub outs_set : (ks : List ℕ) (vs locals : List Value) → AreSendable vs → AreSendable locals →
    AreSendable (with_outs ks vs locals)
outs_set [] vs locals h k = k
outs_set (x ∷ ks) [] locals h k = k
outs_set (x ∷ ks) (v ∷ vs) locals h k =
    outs_set ks vs (slice_set locals x v) h.1 (each_set IsSendable locals x v h.0 k)

-- slots that were written
slots_written : (slots : List Value) (ws : List Write) → AreSendable slots →
    AllByRecursion (λ w. IsSendable w.value) ws → AreSendable (written slots ws)
slots_written slots [] h k = h
slots_written slots (w ∷ ws) h k =
    slots_written (slice_set slots w.slot w.value) ws
    (each_set IsSendable slots w.slot w.value k.0 h) k.1

-- they are as many
slots_length : (slots : List Value) (ws : List Write) → length (written slots ws) ≡ length slots
slots_length slots [] = refl
slots_length slots (w ∷ ws) =
    slots_length (slice_set slots w.slot w.value) ws ∙ length-set slots w.slot w.value

-- invocations of which the first is answered
pub answered_below : (a : Answer) (below : List Invocation) → AnswerIsSendable a →
    AllByRecursion InvocationIsSendable below →
    AllByRecursion InvocationIsSendable (below_answered a below)
answered_below a [] h k = tt
answered_below a (i ∷ below) h k =
    (record { locals = k.0.locals; sixteen = k.0.sixteen; answer = h }, k.1)

-- a node with slots written
pub writes_slots : {table : List Class} {port : ℕ} → (serial : ℕ) (ws : List Write) (n : Node) →
    AllByRecursion (λ w. IsSendable w.value) ws → NodeIsSendable table port n →
    NodeIsSendable table port (with_slots serial ws n)
writes_slots {table} serial ws n h k = record {
  heap = each_changed (ObjectIsSendable table) (λ x. x.serial == serial) (with_writes ws)
      (λ x e g. record {
        serial = g.serial;
        slots = slots_written x.slots ws g.slots h;
        whole = subst (HasSlots table x.class) (sym (slots_length x.slots ws)) g.whole;
      }) n.heap k.heap;
  stack = k.stack;
  numbers = k.numbers;
}
