use Rattle.do_part.proofs.part.Part.push.Goals as goal
use Rattle.do_part.proofs.Tallying.{tallied-none}
use Rattle.std.proofs.Common.{◌∷◌, ap, arith, refl}
use Rattle.do_stack.specs.Uses.{invocation_values}
use Rattle.do_part.specs.Names.{values_of, sizes_of, stack_of}
use Rattle.do_part.{specs.declared.tally.Tally.TheVariants.Less, proofs.Bounds.values-le}
use Rattle.do_part.proofs.{Exchanging.stack-cons, Numbering.{eased-push, numbered_eased}}
use Rattle.do_part.proofs.Rest.{entries_kept, numbers_came, own_stack, room_kept}
use Rattle.do_part.proofs.Turning.{sound_come, sound_moved}

-- the names in the invocation can be counted
pub tally_invocation-requires : goal.tally_invocation-requires
tally_invocation-requires c =
    sound_come c.self.inside c.self.invariant _ c.self.view_is
    (values_of (invocation_values c.args.inv)) (sizes_of (invocation_values c.args.inv))
    c.requires.stored (λ o. values-le o (invocation_values c.args.inv)) c.requires.names

-- the part is sound with the invocation on top
pub invariant_of-self : goal.invariant_of-self
invariant_of-self c =
    let i = c.self.inside in
    let b = c.tally_invocation.new.self in
    sound_moved i c.self.invariant _ c.self.view_is b b (values_of (invocation_values c.args.inv))
    (λ o. 0) (sizes_of (invocation_values c.args.inv)) c.push.new.self i.next_call
    c.requires.stored (λ o. values-le o (invocation_values c.args.inv)) c.requires.names
    c.tally_invocation.ensures (tallied-none Less b (λ o. 0) 0 (λ o. refl) refl)
    (λ o. let x = ap (λ l. stack_of l o) c.in-Ok.ensures.ok in
    let y = stack-cons c.args.inv i.stack.invocations o in omega (arith, x, y))
    (numbered_eased i c.self.invariant c.push.new.self (c.args.inv ∷ i.stack.invocations)
    (eased-push c.args.inv i.stack.invocations c.requires.running) c.in-Ok.ensures.ok
    c.in-Ok.ensures.late)

-- the stack has the invocation on top
pub returns : goal.returns
returns c =
    let i = c.self.inside in
    let b = c.tally_invocation.new.self in
    let e = c.tally_invocation.ensures in
    let numbers = numbers_came i.holders b (values_of (invocation_values c.args.inv))
    (sizes_of (invocation_values c.args.inv)) e in
    let spare = e.spare in
    let names = e.names in
    rw (← c.self.view_is) (record {
      own = own_stack i b c.push.new.self (c.args.inv ∷ i.stack.invocations) numbers e.came.heap
          c.in-Ok.ensures.ok c.in-Ok.ensures.late;
      objects = room_kept i.holders b numbers;
      room = c.in-Ok.ensures.spare;
      names = omega (arith, spare, names);
      entries = entries_kept i.exports.spare i.holders b numbers;
    })
