use Rattle.do_part.proofs.part.Part.push_item.Goals as goal
use Rattle.std.proofs.Common.{◌≡◌, Some, None, ap, sym, ◌∙◌, arith, refl, subst, inl}
use Rattle.std.specs.Prelude.{slice_get}
use Rattle.do_base.specs.declared.values.value.Value.{Value}
use Rattle.do_behave.specs.{Changes.meaning, declared.change.Change.TheVariants.Push}
use Rattle.do_stack.specs.Waiting.{with_top}
use Rattle.do_part.specs.{Holding.{CanCome, HasCome}, Names.{value_of, size_of, stack_of}}
use Rattle.do_part.specs.{Owned.Owned, Seen.own_of, declared.tally.Tally.TheVariants.Less}
use Rattle.do_part.proofs.{Bounds.value-le, Exchanging.keeps_rest}
use Rattle.do_part.proofs.Numbering.{eased-top, numbered_eased}
use Rattle.do_part.proofs.Pushed.{push-last, push-moves, pushing, read-back, with_item}
use Rattle.do_part.proofs.{Rest.{numbers_came, own_stack}, Stepped.push-stepped}
use Rattle.do_part.proofs.{Tallying.tallied-none, Turning.{sound_come, sound_moved}}

-- there is an item to be read back
pub unreachable-requires-in_default-last_item : goal.unreachable-requires-in_default-last_item
unreachable-requires-in_default-last_item c =
    let p = pushing c.args.list c.args.item c.args.weight
    (ap (λ (v : Owned). v.own.node.stack) c.self.view_is) c.requires.top c.requires.fits in
    let e : None ≡ Some c.args.item = c.in_default-last_item.ensures p.at.items c.args.item
    (push-last p c.args.item c.args.weight c.args.pc c.in-Some.top.now
    (ap (λ l. slice_get l 0) (sym c.in_ok-_done.ensures.invocations) ∙ sym c.in-Some.ensures)) in
    absurd (cc)

-- the item that is read back is the one that was pushed, and can be counted
pub tally_value-requires : goal.tally_value-requires
tally_value-requires c =
    let i = c.self.inside in
    let p = pushing c.args.list c.args.item c.args.weight
    (ap (λ (v : Owned). v.own.node.stack) c.self.view_is) c.requires.top c.requires.fits in
    record {
      names = subst (λ (w : Value). CanCome i.holders (value_of w) (size_of w))
          (sym (read-back p c.args.item c.args.weight c.args.pc c.in_ok-_done.ensures.invocations
          c.in-Some.ensures c.in-Some-last_item.ensures))
          (sound_come i c.self.invariant _ c.self.view_is (value_of c.args.item)
          (size_of c.args.item) c.requires.stored (λ o. value-le o c.args.item) c.requires.names);
    }

-- the part is sound with the item pushed and counted
pub invariant_of-self-2 : goal.invariant_of-self-2
invariant_of-self-2 c =
    let i = c.self.inside in
    let b = c.tally_value.new.self in
    let k = c.change.new.self in
    let done = with_item c.args.list c.args.item c.args.weight c.args.pc in
    let p = pushing c.args.list c.args.item c.args.weight
    (ap (λ (v : Owned). v.own.node.stack) c.self.view_is) c.requires.top c.requires.fits in
    let come = subst (λ (w : Value). HasCome i.holders b (value_of w) (size_of w))
    (read-back p c.args.item c.args.weight c.args.pc c.in_ok-_done.ensures.invocations
    c.in-Some.ensures c.in-Some-last_item.ensures) c.tally_value.ensures in
    sound_moved i c.self.invariant _ c.self.view_is b b (value_of c.args.item) (λ o. 0)
    (size_of c.args.item) k i.next_call c.requires.stored (λ o. value-le o c.args.item)
    c.requires.names come (tallied-none Less b (λ o. 0) 0 (λ o. refl) refl)
    (λ o. let x = ap (λ l. stack_of l o) c.in_ok-_done.ensures.invocations in
    let y = push-moves p c.args.item c.args.weight c.args.pc o in omega (arith, x, y))
    (numbered_eased i c.self.invariant k (with_top done i.stack.invocations)
    (eased-top done i.stack.invocations (λ t. inl (keeps_rest (meaning t
    (Push c.args.list c.args.item c.args.weight c.args.pc)) t).1))
    c.in_ok-_done.ensures.invocations c.in_ok-_done.ensures.late)

-- the change is the push
pub returns-clause-own : goal.returns-clause-own
returns-clause-own c =
    let i = c.self.inside in
    let b = c.tally_value.new.self in
    let k = c.change.new.self in
    let v = c.in-Some-last_item.item.now in
    let done = with_item c.args.list c.args.item c.args.weight c.args.pc in
    let top = rw (← c.self.view_is) at c.requires.top in
    let come = c.tally_value.ensures in
    rw (← c.self.view_is) (own_stack i b k (with_top done i.stack.invocations)
    (numbers_came i.holders b (value_of v) (size_of v) come) come.came.heap
    c.in_ok-_done.ensures.invocations c.in_ok-_done.ensures.late
    ∙ ap (λ n. record (own_of i) { node = n }) (push-stepped i.stack.invocations (own_of i).node
    c.args.list c.args.item c.args.weight c.args.pc top))

-- no more names were counted than the item has
pub returns-clause-names : goal.returns-clause-names
returns-clause-names c =
    let p = pushing c.args.list c.args.item c.args.weight
    (ap (λ (v : Owned). v.own.node.stack) c.self.view_is) c.requires.top c.requires.fits in
    let size = ap size_of (read-back p c.args.item c.args.weight c.args.pc
    c.in_ok-_done.ensures.invocations c.in-Some.ensures c.in-Some-last_item.ensures) in
    let spare = c.tally_value.ensures.spare in
    let names = c.tally_value.ensures.names in
    rw (← c.self.view_is) (omega (arith, size, spare, names))
