use Rattle.do_part.proofs.part.Part.hand_answer.Goals as goal
use Rattle.do_part.proofs.Stacking.{answered-eases}
use Rattle.std.proofs.Common.{ap, sym, ◌∙◌, arith, refl}
use Rattle.do_machine.specs.held.Refers.{answer_values}
use Rattle.do_machine.specs.take.Awaiting.{awaits, stack_answered, with_answer}
use Rattle.do_stack.specs.Waiting.{waiting}
use Rattle.do_part.specs.{Names.{values_of, sizes_of, stack_of}, Owned.Owned, Seen.own_of}
use Rattle.do_part.{specs.declared.tally.Tally.TheVariants.Less, proofs.Answering.answer-moves}
use Rattle.do_part.proofs.Awaited.{awaited-answered, call_of, call_to, is_awaited, passes-some}
use Rattle.do_part.proofs.{Awaited.unawaited-answered, Bounds.values-le, Numbering.eased-first}
use Rattle.do_part.proofs.{Numbering.numbered_eased, Rest.{entries_kept, numbers_came, own_stack}}
use Rattle.do_part.proofs.{Rest.room_kept, Tallying.tallied-none, Turning.{sound_come, sound_moved}}

-- where none waits, nothing changes
pub returns-then-not-awaited-clause-own : goal.returns-then-not-awaited-clause-own
returns-then-not-awaited-clause-own c =
    let i = c.self.inside in
    let n = c.self.invariant.numbered in
    let found = ap (λ (v : Owned). is_awaited i.holders.node c.args.peer c.args.number c.args.root
    v.own.node.stack) c.self.view_is ∙ sym c.is_awaited-awaited.ensures ∙ c.if-not-awaited.true in
    let same = unawaited-answered i.holders.node c.args.peer c.args.number c.args.root
    c.args.answer i.stack.invocations n.home
    (let o = n.once c.args.number in omega (arith, o)) found in
    rw (← c.self.view_is)
    (λ j. record (own_of i) { node = record (own_of i).node { stack = sym same j } })

-- the names in the answer can be counted
pub tally_answer-requires : goal.tally_answer-requires
tally_answer-requires c =
    sound_come c.self.inside c.self.invariant _ c.self.view_is
    (values_of (answer_values c.args.answer)) (sizes_of (answer_values c.args.answer))
    c.requires.stored (λ o. values-le o (answer_values c.args.answer)) c.requires.names

-- the part is sound with the answer counted and handed to the one that waits
pub invariant_of-self : goal.invariant_of-self
invariant_of-self c =
    let i = c.self.inside in
    let a = c.args.answer in
    let k = call_to c.args.peer c.args.number c.args.root in
    let b = c.tally_answer.new.self in
    let call = call_of i.holders.node c.args.number in
    let found = ap (λ (v : Owned). is_awaited i.holders.node c.args.peer c.args.number c.args.root
    v.own.node.stack) c.self.view_is ∙ sym c.is_awaited-awaited.ensures ∙ c.if-not-awaited.false in
    let same = awaited-answered i.holders.node c.args.peer c.args.number c.args.root a
    i.stack.invocations c.self.invariant.numbered.home found in
    let e = c.answer-2.ensures in
    sound_moved i c.self.invariant _ c.self.view_is b b (values_of (answer_values a)) (λ o. 0)
    (sizes_of (answer_values a)) c.answer-2.new.self i.next_call c.requires.stored
    (λ o. values-le o (answer_values a)) c.requires.names c.tally_answer.ensures
    (tallied-none Less b (λ o. 0) 0 (λ o. refl) refl)
    (λ o. let x = ap (λ l. stack_of l o) e.invocations in
    let y = answer-moves call c.args.peer a i.stack.invocations o
    (passes-some _ (waiting call c.args.peer i.stack.invocations) found) in
    omega (arith, x, y))
    (numbered_eased i c.self.invariant c.answer-2.new.self
    (stack_answered k (λ what. a) i.stack.invocations)
    (eased-first (λ x. awaits k x.state) (with_answer (λ what. a)) i.stack.invocations
    (λ x. answered-eases (λ what. a) x.state)) (e.invocations ∙ same) e.late)

-- the one that waits has the answer, whose names are counted
pub returns : goal.returns
returns c =
    let i = c.self.inside in
    let a = c.args.answer in
    let b = c.tally_answer.new.self in
    let same = awaited-answered i.holders.node c.args.peer c.args.number c.args.root a
    i.stack.invocations c.self.invariant.numbered.home
    (ap (λ (v : Owned). is_awaited i.holders.node c.args.peer c.args.number c.args.root
    v.own.node.stack) c.self.view_is ∙ sym c.is_awaited-awaited.ensures
    ∙ c.if-not-awaited.false) in
    let e = c.tally_answer.ensures in
    let numbers = numbers_came i.holders b (values_of (answer_values a))
    (sizes_of (answer_values a)) e in
    let spare = e.spare in
    let names = e.names in
    rw (← c.self.view_is) (record {
      own = own_stack i b c.answer-2.new.self
          (stack_answered (call_to c.args.peer c.args.number c.args.root) (λ what. a)
          i.stack.invocations) numbers e.came.heap (c.answer-2.ensures.invocations ∙ same)
          c.answer-2.ensures.late;
      objects = room_kept i.holders b numbers;
      names = omega (arith, spare, names);
      entries = entries_kept i.exports.spare i.holders b numbers;
    })
