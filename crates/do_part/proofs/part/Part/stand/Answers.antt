use Rattle.do_part.proofs.part.Part.stand.Goals as goal
use Rattle.std.proofs.Common.{[], Some, ap, sym, ◌∙◌, refl, subst, inr}
use Rattle.std.specs.Prelude.{◌≡◌, slice_get}
use Rattle.do_behave.specs.declared.invocation.{Invocation.Invocation, InvState.TheVariants.Below}
use Rattle.do_machine.specs.{held.Refers.state_values, run.Changes.stands}
use Rattle.do_stack.specs.Waiting.{with_top}
use Rattle.do_part.{specs.{Names.stack_of, Owned.Owned}, proofs.Numbering.eased-top}
use Rattle.do_part.proofs.{Numbering.numbered_eased, Stacking.stands-moves, Turning.sound_stacked}

-- the part is sound with the top in the new state
pub invariant_of-self : goal.invariant_of-self
invariant_of-self c =
    let i = c.self.inside in
    let used = subst (λ (v : Owned). (top : Invocation) → slice_get v.own.node.stack 0 ≡ Some top
    → state_values top.state ≡ []) (sym c.self.view_is) c.requires.used in
    sound_stacked i c.self.invariant c.stand.new.self i.next_call
    (λ o. ap (λ l. stack_of l o) c.stand.ensures.invocations
    ∙ stands-moves c.args.pc c.args.into c.args.outs Below i.stack.invocations o refl used)
    (numbered_eased i c.self.invariant c.stand.new.self
    (with_top (stands c.args.pc c.args.into c.args.outs Below) i.stack.invocations)
    (eased-top (stands c.args.pc c.args.into c.args.outs Below) i.stack.invocations
    (λ x. inr refl)) c.stand.ensures.invocations c.stand.ensures.late)
