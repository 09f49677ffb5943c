use Rattle.do_part.proofs.part.Part.take_answer.Goals as goal
use Rattle.do_part.proofs.Numbering.{eased-top, numbered_eased}
use Rattle.std.proofs.Common.{ap, sym, arith, refl}
use Rattle.do_machine.specs.held.Refers.{answer_values}
use Rattle.do_stack.specs.{Answered.{answer_taken, values_taken}, Waiting.with_top}
use Rattle.do_part.specs.{Names.{values_of, stack_of}, declared.tally.Tally.TheVariants.More}
use Rattle.do_part.proofs.Rest.{entries_kept, numbers_gone, own_stack, room_kept}
use Rattle.do_part.proofs.{Stacking.{taken-eases, taken-moves}, Tallying.tallied-none}
use Rattle.do_part.proofs.Turning.{stack_go, sound_moved, sound_stacked}

-- the names in the answer are counted
pub tally_answer-requires : goal.tally_answer-requires
tally_answer-requires c =
    let i = c.self.inside in
    stack_go i c.self.invariant _ c.self.view_is i.holders (λ o. 0)
    (values_of (answer_values c.in-Some.answer)) 0 (λ n above. absurd (omega (arith, above)))
    (tallied-none More i.holders (λ o. 0) 0 (λ o. refl) refl)
    (λ o. let x = taken-moves i.stack.invocations o in
    let y = ap (λ a. values_of (values_taken a) o) c.in-Some.ensures.which in omega (arith, x, y))

-- without an answer nothing changes
pub invariant_of-self : goal.invariant_of-self
invariant_of-self c =
    let i = c.self.inside in
    sound_stacked i c.self.invariant c.take_answer.new.self i.next_call
    (λ o. let x = taken-moves i.stack.invocations o in
    let y = ap (λ a. values_of (values_taken a) o) c.in_default.ensures.which in
    let z = ap (λ l. stack_of l o) c.in_default.ensures.invocations in omega (arith, x, y, z))
    (numbered_eased i c.self.invariant c.take_answer.new.self
    (with_top answer_taken i.stack.invocations)
    (eased-top answer_taken i.stack.invocations (λ x. taken-eases x.state))
    c.in_default.ensures.invocations c.in_default.ensures.late)

-- the part is sound with the answer taken off
pub invariant_of-self-2 : goal.invariant_of-self-2
invariant_of-self-2 c =
    let i = c.self.inside in
    sound_moved i c.self.invariant _ c.self.view_is i.holders c.tally_answer.new.self (λ o. 0)
    (values_of (answer_values c.in-Some.answer)) 0 c.take_answer.new.self i.next_call
    (λ n above. absurd (omega (arith, above))) (λ o. omega arith) (omega arith)
    (tallied-none More i.holders (λ o. 0) 0 (λ o. refl) refl) c.tally_answer.ensures
    (λ o. let x = taken-moves i.stack.invocations o in
    let y = ap (λ a. values_of (values_taken a) o) c.in-Some.ensures.which in
    let z = ap (λ l. stack_of l o) c.in-Some.ensures.invocations in omega (arith, x, y, z))
    (numbered_eased i c.self.invariant c.take_answer.new.self
    (with_top answer_taken i.stack.invocations)
    (eased-top answer_taken i.stack.invocations (λ x. taken-eases x.state))
    c.in-Some.ensures.invocations c.in-Some.ensures.late)

-- the top runs, without its answer
pub returns : goal.returns
returns c =
    let i = c.self.inside in
    let b = c.tally_answer.new.self in
    let e = c.tally_answer.ensures in
    let numbers = numbers_gone i.holders b (values_of (answer_values c.in-Some.answer)) e in
    let spare = e.spare in
    let names = e.names in
    rw (← c.self.view_is) (record {
      which = c.in-Some.ensures.which;
      own = own_stack i b c.take_answer.new.self (with_top answer_taken i.stack.invocations)
          numbers (sym e.went.heap) c.in-Some.ensures.invocations c.in-Some.ensures.late;
      objects = room_kept i.holders b numbers;
      invocations = c.in-Some.ensures.spare;
      names = omega (arith, spare, names);
      entries = entries_kept i.exports.spare i.holders b numbers;
    })
