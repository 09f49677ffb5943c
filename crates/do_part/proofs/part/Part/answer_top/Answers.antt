use Rattle.do_part.proofs.part.Part.answer_top.Goals as goal
use Rattle.std.proofs.Common.{ap, arith, refl, inr}
use Rattle.do_machine.specs.{held.Refers.{answer_values, state_values}, run.Changes.answered}
use Rattle.do_stack.specs.Waiting.{with_top}
use Rattle.do_part.{specs.Names.{values_of, sizes_of, stack_of}, proofs.Bounds.values-le}
use Rattle.do_part.proofs.{Numbering.{eased-top, numbered_eased}, Rest.{numbers_turned, heap_kept}}
use Rattle.do_part.proofs.{Rest.{entries_kept, own_stack, room_kept}, Stacking.answered-moves}
use Rattle.do_part.proofs.{Stacking.not-empty, Turning.{sound_come, stack_go, sound_moved}}

-- the names in the answer can be counted
pub tally_answer-requires : goal.tally_answer-requires
tally_answer-requires c =
    sound_come c.self.inside c.self.invariant _ c.self.view_is
    (values_of (answer_values c.args.answer)) (sizes_of (answer_values c.args.answer))
    c.requires.stored (λ o. values-le o (answer_values c.args.answer)) c.requires.names

-- the names in what the top had before are counted
pub tally_state-requires : goal.tally_state-requires
tally_state-requires c =
    let i = c.self.inside in
    let a = c.args.answer in
    let was = c.set_answer-was.result in
    let some = not-empty i.stack.invocations c.depth.result c.depth.ensures.value
    c.if-depth-eq0.false in
    stack_go i c.self.invariant _ c.self.view_is c.tally_answer.new.self
    (values_of (answer_values a)) (values_of (state_values was)) (sizes_of (answer_values a))
    c.requires.stored c.tally_answer.ensures
    (λ o. let x = answered-moves a i.stack.invocations was o some c.set_answer-was.ensures.was in
    omega (arith, x))

-- the part is sound with the new answer counted and the old state taken off
pub invariant_of-self : goal.invariant_of-self
invariant_of-self c =
    let i = c.self.inside in
    let a = c.args.answer in
    let was = c.set_answer-was.result in
    let k = c.set_answer-was.new.stack in
    let e = c.set_answer-was.ensures in
    let some = not-empty i.stack.invocations c.depth.result c.depth.ensures.value
    c.if-depth-eq0.false in
    sound_moved i c.self.invariant _ c.self.view_is c.tally_answer.new.self
    c.tally_state.new.self (values_of (answer_values a)) (values_of (state_values was))
    (sizes_of (answer_values a)) k i.next_call c.requires.stored
    (λ o. values-le o (answer_values a)) c.requires.names c.tally_answer.ensures
    c.tally_state.ensures
    (λ o. let x = answered-moves a i.stack.invocations was o some e.was in
    let y = ap (λ l. stack_of l o) e.invocations in omega (arith, x, y))
    (numbered_eased i c.self.invariant k (with_top (answered a) i.stack.invocations)
    (eased-top (answered a) i.stack.invocations (λ x. inr refl)) e.invocations e.late)

-- the top has the answer
pub returns : goal.returns
returns c =
    let i = c.self.inside in
    let a = c.args.answer in
    let was = c.set_answer-was.result in
    let k = c.set_answer-was.new.stack in
    let e = c.set_answer-was.ensures in
    let b = c.tally_answer.new.self in
    let d = c.tally_state.new.self in
    let come = c.tally_answer.ensures in
    let gone = c.tally_state.ensures in
    let numbers = numbers_turned i.holders b d (values_of (answer_values a))
    (values_of (state_values was)) (sizes_of (answer_values a)) come gone in
    let s1 = come.spare in
    let s2 = gone.spare in
    let n1 = come.names in
    let n2 = gone.names in
    rw (← c.self.view_is) (record {
      own = own_stack i d k (with_top (answered a) i.stack.invocations) numbers
          (heap_kept i.holders b d (values_of (answer_values a)) (values_of (state_values was))
          (sizes_of (answer_values a)) come gone) e.invocations e.late;
      objects = room_kept i.holders d numbers;
      invocations = e.spare;
      names = omega (arith, s1, s2, n1, n2);
      entries = entries_kept i.exports.spare i.holders d numbers;
    })
