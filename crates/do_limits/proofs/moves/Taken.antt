-- What begins or is answered by an item or an event can be carried.
use Rattle.do_behave.specs.declared.invocation.Reason.TheVariants as reasons
use Rattle.do_machine.specs.declared.item.Item.TheVariants as items
use Rattle.std.proofs.Common.{◌≡◌, ℕ, true, arith, map, refl, sym, subst}
use Rattle.do_base.specs.declared.events.exception.Exc.{Exc, TheVariants.{Deep, NotUnderstood}}
use Rattle.do_base.specs.declared.events.exception.Exc.TheVariants.{NotVended, TypeFault}
use Rattle.do_class.specs.declared.packet.Packet.{Packet}
use Rattle.do_behave.specs.declared.invocation.{Answer.Answer, Invocation.Invocation, Reason.Reason}
use Rattle.do_behave.specs.declared.invocation.Waited.{Waited}
use Rattle.do_machine.specs.declared.{item.{Item.Item, Message.Message}, node.Node.Node}
use Rattle.do_machine.specs.{Context.own_class, State.own, take.Awaiting.AnsweredCall}
use Rattle.do_machine.specs.take.Receipt.{is_entered, is_reachable, reading}
use Rattle.do_facts.specs.nodes.Judged.{IsAdmitted, IsAnswer, IsStarted, Judge, context_of}
use Rattle.do_facts.specs.nodes.Judged.{is_denial, read}
use Rattle.do_facts.proofs.methods.FewArguments.{fitting_length, found_few}
use Rattle.do_limits.specs.Sendable.{AreSendable, IsSendableExc, IsReadablePacket}
use Rattle.do_limits.specs.SendableStates.{AnswerIsSendable, InvocationIsSendable, ItemIsReadable}
use Rattle.do_limits.proofs.{Effects.begins, moves.Packets.{IsGiven, JudgeIsSendable}}
use Rattle.do_limits.proofs.{runs.Verdicts.textless, takes.Answers.answers}
use Rattle.do_limits.proofs.values.Unpacking.{values_come}

-- a refusal is an exception that a message can carry
pub denial_ok : (e : Exc) → is_denial e ≡ true → IsSendableExc e
denial_ok NotVended h = textless NotVended refl
denial_ok NotUnderstood h = textless NotUnderstood refl
denial_ok TypeFault h = textless TypeFault refl
denial_ok Deep h = textless Deep refl
denial_ok _ h = absurd (cc (h))

module _ (j : Judge) (ok : JudgeIsSendable j) where
  -- the values of a message that comes
  read_ok : (from : ℕ) (packet : Packet) → IsReadablePacket j.table from j.first.port packet →
      AreSendable (read j from packet)
  read_ok from packet h =
      let c = context_of j in
      values_come (reading c from packet) (map (is_entered c from) packet.names)
      (map (is_reachable c) packet.names) packet j.table from j.first.port h

  -- an invocation that a message begins
  pub admitted_ok : (from : ℕ) (m : Message) (reason : Reason) (i : Invocation) (n : Node) →
      IsReadablePacket j.table from j.first.port m.packet → IsAdmitted j from m reason i n →
      InvocationIsSendable i
  admitted_ok from m reason i n h a =
      let vs = read j from m.packet in
      let class = own_class j.first m.target in
      let most = found_few j.table ok.methods.few class m.selector a.found a.method in
      subst InvocationIsSendable (sym a.begins)
      (begins (own j.first m.target) a.found.id reason vs (read_ok from m.packet h)
      (omega (arith, most, fitting_length a.found.signature vs a.fits)))

  -- an invocation that is started
  pub started_ok : (i : Invocation) (n : Node) → IsStarted j i n → InvocationIsSendable i
  started_ok i n s =
      let class = own_class j.first s.root in
      let most = found_few j.table ok.methods.few class s.selector s.found s.method in
      subst InvocationIsSendable (sym s.begins)
      (begins (own j.first s.root) s.found.id reasons.Start s.values
      (subst IsGiven s.cause ok.given)
      (omega (arith, most, fitting_length s.found.signature s.values s.fits)))

  -- an answer that is taken
  pub taken_ok : (k : AnsweredCall) (item : Item) (answer : Waited → Answer) →
      ItemIsReadable j.table k.peer j.first.port item → IsAnswer j k item answer →
      (what : Waited) → AnswerIsSendable (answer what)
  taken_ok k (items.Reply number packet) answer h is what =
      subst (λ (f : Waited → Answer). AnswerIsSendable (f what)) (sym is.1)
      (answers j.table (read j k.peer packet) (read_ok k.peer packet h) what)
  taken_ok k (items.RootAnswer number packet) answer h is what =
      subst (λ (f : Waited → Answer). AnswerIsSendable (f what)) (sym is.1)
      (answers j.table (read j k.peer packet) (read_ok k.peer packet h) what)
  taken_ok k (items.Raised number e) answer h is what =
      subst (λ (f : Waited → Answer). AnswerIsSendable (f what)) (sym is.1) h
  taken_ok k _ answer h is what = absurd is
