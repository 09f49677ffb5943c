use Rattle.do_part.proofs.part.Part.abandon.Goals as goal
use Rattle.std.proofs.Common.{IsSome, Some, ap, ◌∙◌, sym, subst}
use Rattle.do_base.specs.declared.events.exception.Exc.TheVariants.{TimedOut}
use Rattle.do_behave.specs.declared.invocation.Answer.TheVariants.{Raised}
use Rattle.do_machine.specs.{Effect.only, ends.TimeOut.time_out, run.Changes.answered}
use Rattle.do_stack.specs.{Late.top_call, Waiting.with_top}
use Rattle.do_part.specs.{Names.stack_of, Numbered.IsNumbered, Owned.Owned, Seen.own_of}
use Rattle.do_part.proofs.{Balanced.found_of, GivenUp.{enabled_call, kept-inserted, numbered_late}}
use Rattle.do_part.proofs.{GivenUp.time_out-is, Stacking.abandon-moves, Turning.sound_stacked}

-- the top waits, as the stack sees it
pub abandon-requires : goal.abandon-requires
abandon-requires c =
    let i = c.self.inside in
    enabled_call i.stack.invocations (own_of i).node
    (subst (λ (v : Owned). IsSome (time_out v.own.node)) (sym c.self.view_is) c.requires.waits)

-- the part is sound with the call given up
pub invariant_of-self : goal.invariant_of-self
invariant_of-self c =
    let i = c.self.inside in
    let k = c.abandon.new.self in
    let waits = enabled_call i.stack.invocations (own_of i).node
    (subst (λ (v : Owned). IsSome (time_out v.own.node)) (sym c.self.view_is) c.requires.waits) in
    let call = found_of (top_call i.stack.invocations) waits in
    sound_stacked i c.self.invariant k i.next_call
    (λ o. ap (λ l. stack_of l o) c.in-Ok.ensures.invocations
    ∙ abandon-moves i.stack.invocations o waits)
    (subst (λ l. IsNumbered i.holders.node l k.late i.next_call)
    (sym c.in-Ok.ensures.invocations)
    (subst (λ m. IsNumbered i.holders.node
    (with_top (answered (Raised TimedOut)) i.stack.invocations) m i.next_call)
    (sym (c.in-Ok.ensures.late call.value call.is))
    (numbered_late i.holders.node i.next_call i.stack.invocations i.stack.late call.value
    c.self.invariant.numbered call.is)))

-- the node is the one whose call timed out
pub returns-clause-node : goal.returns-clause-node
returns-clause-node c =
    let i = c.self.inside in
    let waits = enabled_call i.stack.invocations (own_of i).node
    (subst (λ (v : Owned). IsSome (time_out v.own.node)) (sym c.self.view_is) c.requires.waits) in
    let call = found_of (top_call i.stack.invocations) waits in
    let late = c.in-Ok.ensures.late call.value call.is
    ∙ kept-inserted i.holders.node i.next_call i.stack.invocations i.stack.late call.value
    c.self.invariant.numbered call.is in
    rw (← c.self.view_is) (time_out-is (own_of i).node call.value call.is
    ∙ λ j. Some (only (record (own_of i).node {
      stack = sym c.in-Ok.ensures.invocations j;
      late = sym late j;
    })))
