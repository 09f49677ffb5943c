use Rattle.do_behave.specs.declared.change.Change.TheVariants as changes
use Rattle.do_part.proofs.part.Part.set_local.Goals as goal
use Rattle.std.proofs.Common.{[], ◌∷◌, inl, ap, arith, refl}
use Rattle.do_behave.specs.{Changes.meaning, InPlace.after_act}
use Rattle.do_stack.specs.Waiting.{with_top}
use Rattle.do_part.{specs.Names.{values_of, sizes_of, stack_of}, proofs.Bounds.values-le}
use Rattle.do_part.proofs.{Exchanging.{change-moves, first_of, keeps_rest}, Numbering.eased-top}
use Rattle.do_part.proofs.{Numbering.numbered_eased, Rest.{numbers_turned, heap_kept, entries_kept}}
use Rattle.do_part.proofs.{Rest.{own_stack, room_kept}, Turning.{sound_come, stack_go, sound_moved}}

-- the names in the value can be counted
pub come_local-requires : goal.come_local-requires
come_local-requires c =
    sound_come c.self.inside c.self.invariant _ c.self.view_is (values_of (c.args.value ∷ []))
    (sizes_of (c.args.value ∷ [])) c.requires.stored (λ o. values-le o (c.args.value ∷ []))
    c.requires.names

-- the names in what the local held are counted
pub go_local-requires : goal.go_local-requires
go_local-requires c =
    let i = c.self.inside in
    let change = changes.Local c.args.into c.args.value c.args.pc in
    let top = rw (← c.self.view_is) at c.requires.top in
    let first = first_of i.stack.invocations top in
    stack_go i c.self.invariant _ c.self.view_is c.come_local.new.self
    (values_of (c.args.value ∷ [])) (values_of (c.set_local-was.result ∷ []))
    (sizes_of (c.args.value ∷ [])) c.requires.stored c.come_local.ensures
    (λ o. let x = change-moves change i.stack.invocations first.value o refl first.is in
    let y = ap (λ w. values_of (w ∷ []) o) (c.set_local-was.ensures.was first.value first.is) in
    omega (arith, x, y))

-- the part is sound with what was given counted and what was taken taken off
pub invariant_of-self : goal.invariant_of-self
invariant_of-self c =
    let i = c.self.inside in
    let change = changes.Local c.args.into c.args.value c.args.pc in
    let top = rw (← c.self.view_is) at c.requires.top in
    let first = first_of i.stack.invocations top in
    sound_moved i c.self.invariant _ c.self.view_is c.come_local.new.self c.go_local.new.self
    (values_of (c.args.value ∷ [])) (values_of (c.set_local-was.result ∷ []))
    (sizes_of (c.args.value ∷ [])) c.set_local-was.new.self i.next_call c.requires.stored
    (λ o. values-le o (c.args.value ∷ [])) c.requires.names c.come_local.ensures
    c.go_local.ensures
    (λ o. let x = change-moves change i.stack.invocations first.value o refl first.is in
    let y = ap (λ w. values_of (w ∷ []) o) (c.set_local-was.ensures.was first.value first.is) in
    let z = ap (λ l. stack_of l o) c.set_local-was.ensures.invocations in
    omega (arith, x, y, z))
    (numbered_eased i c.self.invariant c.set_local-was.new.self
    (with_top (λ t. (after_act (meaning t change) t []).inv) i.stack.invocations)
    (eased-top (λ t. (after_act (meaning t change) t []).inv) i.stack.invocations
    (λ t. inl (keeps_rest (meaning t change) t).1)) c.set_local-was.ensures.invocations
    c.set_local-was.ensures.late)

-- the top has the value in its local
pub returns : goal.returns
returns c =
    let i = c.self.inside in
    let change = changes.Local c.args.into c.args.value c.args.pc in
    let e = c.come_local.ensures in
    let g = c.go_local.ensures in
    let numbers = numbers_turned i.holders c.come_local.new.self c.go_local.new.self
    (values_of (c.args.value ∷ [])) (values_of (c.set_local-was.result ∷ []))
    (sizes_of (c.args.value ∷ [])) e g in
    let s1 = e.spare in
    let s2 = g.spare in
    let n1 = e.names in
    let n2 = g.names in
    rw (← c.self.view_is) (record {
      own = own_stack i c.go_local.new.self c.set_local-was.new.self
          (with_top (λ t. (after_act (meaning t change) t []).inv) i.stack.invocations) numbers
          (heap_kept i.holders c.come_local.new.self c.go_local.new.self
          (values_of (c.args.value ∷ [])) (values_of (c.set_local-was.result ∷ []))
          (sizes_of (c.args.value ∷ [])) e g)
          c.set_local-was.ensures.invocations c.set_local-was.ensures.late;
      objects = room_kept i.holders c.go_local.new.self numbers;
      invocations = c.set_local-was.ensures.spare;
      names = omega (arith, s1, s2, n1, n2);
      entries = entries_kept i.exports.spare i.holders c.go_local.new.self numbers;
    })
