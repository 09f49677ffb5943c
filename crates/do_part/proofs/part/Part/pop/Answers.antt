use Rattle.do_part.proofs.part.Part.pop.Goals as goal
use Rattle.do_part.proofs.Numbering.{numbered_eased, IsEased, eased-pop, eased-same}
use Rattle.std.proofs.Common.{ap, sym, ◌∙◌, arith, refl, subst}
use Rattle.do_stack.specs.Uses.{invocation_values}
use Rattle.do_part.specs.{Names.{values_of, stack_of}, declared.tally.Tally.TheVariants.More}
use Rattle.do_part.proofs.Exchanging.{stack-cons}
use Rattle.do_part.proofs.Rest.{entries_kept, numbers_gone, own_stack, room_kept}
use Rattle.do_part.proofs.{Tallying.tallied-none, Turning.{stack_go, sound_moved, sound_stacked}}

-- the names in the top are counted
pub tally_invocation-requires : goal.tally_invocation-requires
tally_invocation-requires c =
    let i = c.self.inside in
    stack_go i c.self.invariant _ c.self.view_is i.holders (λ o. 0)
    (values_of (invocation_values c.in-Some.top)) 0 (λ n above. absurd (omega (arith, above)))
    (tallied-none More i.holders (λ o. 0) 0 (λ o. refl) refl)
    (λ o. let x = ap (λ l. stack_of l o) c.in-Some.ensures.taken in
    let y = stack-cons c.in-Some.top c.pop.new.self.invocations o in omega (arith, x, y))

-- without an invocation nothing changes
pub invariant_of-self : goal.invariant_of-self
invariant_of-self c =
    let none = c.in_default.ensures.taken in
    let i = c.self.inside in
    sound_stacked i c.self.invariant c.pop.new.self i.next_call
    (λ o. ap (λ l. stack_of l o) (none.1 ∙ sym none.0))
    (numbered_eased i c.self.invariant c.pop.new.self i.stack.invocations
    (eased-same i.stack.invocations) (none.1 ∙ sym none.0) c.in_default.ensures.late)

-- the part is sound without its top invocation
pub invariant_of-self-2 : goal.invariant_of-self-2
invariant_of-self-2 c =
    let i = c.self.inside in
    sound_moved i c.self.invariant _ c.self.view_is i.holders c.tally_invocation.new.self
    (λ o. 0) (values_of (invocation_values c.in-Some.top)) 0 c.pop.new.self i.next_call
    (λ n above. absurd (omega (arith, above))) (λ o. omega arith) (omega arith)
    (tallied-none More i.holders (λ o. 0) 0 (λ o. refl) refl) c.tally_invocation.ensures
    (λ o. let x = ap (λ l. stack_of l o) c.in-Some.ensures.taken in
    let y = stack-cons c.in-Some.top c.pop.new.self.invocations o in omega (arith, x, y))
    (numbered_eased i c.self.invariant c.pop.new.self c.pop.new.self.invocations
    (subst (λ l. IsEased l c.pop.new.self.invocations) (sym c.in-Some.ensures.taken)
    (eased-pop c.in-Some.top c.pop.new.self.invocations)) refl c.in-Some.ensures.late)

-- the stack is what was below the top
pub returns : goal.returns
returns c =
    let i = c.self.inside in
    let b = c.tally_invocation.new.self in
    let e = c.tally_invocation.ensures in
    let numbers = numbers_gone i.holders b (values_of (invocation_values c.in-Some.top)) e in
    let spare = e.spare in
    let names = e.names in
    rw (← c.self.view_is) (record {
      own = (
        c.in-Some.ensures.taken,
        own_stack i b c.pop.new.self c.pop.new.self.invocations numbers (sym e.went.heap) refl
            c.in-Some.ensures.late,
      );
      objects = room_kept i.holders b numbers;
      room = c.in-Some.ensures.spare;
      names = omega (arith, spare, names);
      entries = entries_kept i.exports.spare i.holders b numbers;
    })
