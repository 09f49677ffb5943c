-- What a node packs, and what it is told by its verdicts, can be carried.
use Rattle.do_facts.specs.nodes.Cause as cause
use Rattle.do_machine.specs.declared.verdict.Request.TheVariants as requests
use Rattle.do_machine.specs.declared.verdict.Verdict.TheVariants as verdicts
use Rattle.std.proofs.Common.{◌≡◌, ◌≤◌, ℕ, false, List, [], ◌∷◌, arith, refl, subst, sym}
use Rattle.std.specs.{Prelude.{None, Option, Some}, List.AllByRecursion}
use Rattle.do_base.{proofs.Weights.{weight_of-Nil, weight_of-Obj}, specs.values.Values.weight_of}
use Rattle.do_base.specs.declared.events.exception.Exc.TheVariants.{TooLarge}
use Rattle.do_base.specs.declared.values.value.Value.TheVariants.{Nil, Obj}
use Rattle.do_class.specs.{declared.packet.Packet.Packet, Table.signature_of}
use Rattle.do_packet.specs.Copies.{Placed}
use Rattle.do_behave.specs.declared.invocation.Answer.{Answer, TheVariants.{Given, Raised}}
use Rattle.do_behave.specs.declared.invocation.{Handler.Handler, Invocation.Invocation}
use Rattle.do_machine.specs.declared.{item.Message.Message, node.Node.Node, verdict.Verdict.Verdict}
use Rattle.do_machine.specs.{Packing.packer, State.own, run.Acts.root_value}
use Rattle.do_machine.specs.{run.Answers.{answer_marks, answer_placed}, take.Take.root_packet}
use Rattle.do_facts.specs.nodes.{Cause.Cause, Judged.{AsRoot, Asked, Delivered, InAnswer}}
use Rattle.do_facts.specs.nodes.Judged.{InMessage, IsPacked, IsSaid, Judge, Judged, Told}
use Rattle.do_facts.specs.nodes.{Judged.{context_of, gives, raised_of, run_of}, Moves.Top}
use Rattle.do_facts.proofs.EachOfLists.{each_zipped}
use Rattle.do_limits.specs.Sendable.{AreSendable, IsSendable, IsSendableExc, IsSendablePacket}
use Rattle.do_limits.specs.{SendableActs.KeepsSendable, SendableStates.AnswerIsSendable}
use Rattle.do_limits.specs.SendableStates.{InvocationIsSendable, MessageIsSendable}
use Rattle.do_limits.proofs.Senders.{ContextIsSendable, sender_sendable}
use Rattle.do_limits.proofs.Signatures.{HasMethods, few_answer_marks}
use Rattle.do_limits.proofs.runs.{Judged.verdict_sendable, Verdicts.{VerdictIsSendable, few_places}}
use Rattle.do_limits.proofs.runs.Verdicts.{message_sendable, root_sendable, textless}
use Rattle.do_limits.proofs.values.{Packing.packed_sendable, RootMessages.light_packed}

-- what an event gives: a start gives values that a message can carry, and no event frees or leaves
abbrev pub IsGiven : Cause → Type 0
IsGiven (cause.Start selector values) = AreSendable values
IsGiven (cause.Leave freed) = ⊥
IsGiven _ = Unit {0}

-- What effects are judged by: methods with few arguments, acts that keep to such values, and a node
-- that has them
pub record JudgeIsSendable (j : Judge) : Type 0 where
  pub methods : HasMethods j.table
  pub acts : KeepsSendable j.table j.act
  pub context : ContextIsSendable (context_of j)
  pub given : IsGiven j.cause

module _ (j : Judge) (ok : JudgeIsSendable j) where
  -- a message of the node
  abbrev Packs : ℕ → Packet → Type 0
  Packs to packet = IsSendablePacket j.table j.first.port to packet

  -- the invocations as a verdict was given
  stack_then : (v : Verdict) (t : Top) (n : Node) → Judged j v t n →
      AllByRecursion InvocationIsSendable (t.top ∷ t.below)
  stack_then v t n d =
      subst (AllByRecursion InvocationIsSendable) d.stack ok.context.node.stack

  -- what a verdict has
  pub verdict_ok : (v : Verdict) (t : Top) (n : Node) → Judged j v t n →
      VerdictIsSendable j.table j.first.port v
  verdict_ok v t n d =
      verdict_sendable (run_of j t) ok.methods ok.context (stack_then v t n d).0 j.act ok.acts v
      d.rule

  -- what a verdict gives back, if it ends the invocation
  gives_ok : (v : Verdict) (i : Invocation) (a : Answer) →
      VerdictIsSendable j.table j.first.port v → gives v i ≡ Some a → AnswerIsSendable a
  gives_ok (verdicts.Returns value outs) i a h e =
      let same : Given value outs ≡ a = cc (e) in subst AnswerIsSendable same h
  gives_ok (verdicts.Fails x) i a h e = go i.handler e
    where
      go : (handler : Option Handler) →
          elim handler [ None ↦ Some (Raised x) | Some k ↦ None ] ≡ Some a → AnswerIsSendable a
      go None q = let same : Raised x ≡ a = cc (q) in subst AnswerIsSendable same h
      go (Some k) q = absurd (cc (q))
  gives_ok _ i a h e = absurd (cc (e))

  -- the answer of an invocation that ends
  pub answer_ok : (a : Answer) (t : Top) (n : Node) → Delivered j a t n → AnswerIsSendable a
  answer_ok a t n d =
      gives_ok d.verdict t.top a (verdict_ok d.verdict t n d.judged) d.answer

  -- the exception that a peer gets in the place of an answer
  pub raised_ok : (a : Answer) → AnswerIsSendable a → IsSendableExc (raised_of a)
  raised_ok (Given value outs) h = textless TooLarge refl
  raised_ok (Raised e) h = h

  -- a message that is said
  pub said_ok : (to : ℕ) (m : Message) (n : Node) → IsSaid j to m n →
      MessageIsSendable j.table j.first.port to m
  said_ok to m n (Asked t method into outs pc d) =
      verdict_ok (verdicts.Asks to (requests.Call method m) into outs pc) t n d
  said_ok to m n (Told t into pc d) = verdict_ok (verdicts.Tells to m into pc) t n d

  -- the weight of a root
  root_weighs : (root : Option ℕ) →
      weight_of (elim root [ None ↦ Nil | Some serial ↦ Obj (own j.first serial) ]) ≤ 48
  root_weighs None = omega (arith, weight_of-Nil)
  root_weighs (Some serial) = omega (arith, weight_of-Obj (own j.first serial))

  -- what is packed
  pub packed_ok : (to : ℕ) (packet : Packet) → IsPacked j to packet → Packs to packet
  packed_ok to packet (InMessage m said is) =
      subst (Packs to) (sym is) (said_ok to m j.first said).packet
  packed_ok to packet (InAnswer t v outs d is) =
      let marks = answer_marks (signature_of j.table t.top.method) in
      message_sendable (context_of j) ok.context to (answer_placed (run_of j t) v outs)
      (each_zipped IsSendable marks (v ∷ outs) (answer_ok (Given v outs) t j.first d))
      (few_places marks (v ∷ outs) (few_answer_marks j.table ok.methods t.top.method)) packet is
  packed_ok to packet (AsRoot is) =
      let c = context_of j in
      let n = j.first in
      let values : List Placed = (false, root_value n) ∷ [] in
      subst (Packs to) (sym is)
      (packed_sendable (packer c) to n.next_token values (sender_sendable c ok.context)
      ok.context.node.numbers.1.1.0 (root_sendable n, tt) (omega arith) (root_packet c to)
      (light_packed (packer c) to n.next_token (root_value n) (root_weighs n.root)))
