use Rattle.do_part.proofs.part.Part.call_peer.Goals as goal
use Rattle.std.proofs.Common.{[], Some, ◌+◌, suc, ap, sym, ◌∙◌, arith, refl, subst}
use Rattle.std.specs.Prelude.{◌≡◌, slice_get}
use Rattle.do_behave.specs.declared.invocation.{Invocation.Invocation, InvState.TheVariants.Waits}
use Rattle.do_machine.specs.{held.Refers.state_values, run.Changes.stands}
use Rattle.do_part.specs.{Names.stack_of, Owned.Owned, Sound.IsSound}
use Rattle.do_part.proofs.{Numbering.numbered_called, Stacking.stands-moves, Turning.sound_stacked}

-- the part is sound with the call under the next number
pub invariant_of-self : goal.invariant_of-self
invariant_of-self c =
    let i = c.self.inside in
    let used = subst (λ (v : Owned). (top : Invocation) → slice_get v.own.node.stack 0 ≡ Some top
    → state_values top.state ≡ []) (sym c.self.view_is) c.requires.used in
    let state = Waits (record { node = i.holders.node; number = i.next_call }) c.args.peer
    c.args.what in
    let next : suc i.next_call ≡ i.next_call + 1 = omega arith in
    subst (λ n. IsSound (record i { stack = c.stand.new.self; next_call = n })) next
    (sound_stacked i c.self.invariant c.stand.new.self (suc i.next_call)
    (λ o. ap (λ l. stack_of l o) c.stand.ensures.invocations
    ∙ stands-moves c.args.pc c.args.into c.args.outs state i.stack.invocations o refl used)
    (numbered_called i.holders.node i.next_call i.stack.invocations i.stack.late
    c.self.invariant.numbered (stands c.args.pc c.args.into c.args.outs state) c.args.peer
    c.args.what c.stand.new.self (λ x. refl) c.stand.ensures.invocations
    c.stand.ensures.late))
