use Rattle.do_part.proofs.part.Part.exchange.Goals as goal
use Rattle.std.proofs.Common.{[], inl, ap, arith, refl}
use Rattle.do_behave.specs.{Changes.meaning, InPlace.after_act}
use Rattle.do_stack.specs.{Exchange.{given, taken}, Waiting.with_top}
use Rattle.do_part.{specs.Names.{values_of, sizes_of, stack_of}, proofs.Bounds.values-le}
use Rattle.do_part.proofs.{Exchanging.{change-moves, first_of, keeps_rest}, Numbering.eased-top}
use Rattle.do_part.proofs.{Numbering.numbered_eased, Rest.{numbers_turned, heap_kept, entries_kept}}
use Rattle.do_part.proofs.{Rest.{own_stack, room_kept}, Turning.{sound_come, stack_go, sound_moved}}

-- the names that the change gives can be counted
pub come_given-requires : goal.come_given-requires
come_given-requires c = record {
  memory = c.requires.memory;
  names = sound_come c.self.inside c.self.invariant _ c.self.view_is
      (values_of (given c.args.change)) (sizes_of (given c.args.change)) c.requires.stored
      (λ o. values-le o (given c.args.change)) c.requires.names;
}

-- the names that the change took out are counted
pub go_taken-requires : goal.go_taken-requires
go_taken-requires c =
    let i = c.self.inside in
    let top = rw (← c.self.view_is) at c.requires.top in
    let first = first_of i.stack.invocations top in
    stack_go i c.self.invariant _ c.self.view_is c.come_given.new.self
    (values_of (given c.args.change)) (values_of (taken c.in-Ok.done.taken))
    (sizes_of (given c.args.change)) c.requires.stored c.come_given.ensures
    (λ o. let x = change-moves c.args.change i.stack.invocations first.value o c.requires.memory
    first.is in
    let y = ap (λ l. values_of l o) (c.in-Ok.ensures.taken first.value first.is) in
    omega (arith, x, y))

-- the part is sound with what was given counted and what was taken taken off
pub invariant_of-self : goal.invariant_of-self
invariant_of-self c =
    let i = c.self.inside in
    let top = rw (← c.self.view_is) at c.requires.top in
    let first = first_of i.stack.invocations top in
    sound_moved i c.self.invariant _ c.self.view_is c.come_given.new.self c.go_taken.new.self
    (values_of (given c.args.change)) (values_of (taken c.in-Ok.done.taken))
    (sizes_of (given c.args.change)) c.change.new.self i.next_call c.requires.stored
    (λ o. values-le o (given c.args.change)) c.requires.names c.come_given.ensures
    c.go_taken.ensures
    (λ o. let x = change-moves c.args.change i.stack.invocations first.value o c.requires.memory
    first.is in
    let y = ap (λ l. values_of l o) (c.in-Ok.ensures.taken first.value first.is) in
    let z = ap (λ l. stack_of l o) c.in-Ok.ensures.invocations in
    omega (arith, x, y, z))
    (numbered_eased i c.self.invariant c.change.new.self
    (with_top (λ t. (after_act (meaning t c.args.change) t []).inv) i.stack.invocations)
    (eased-top (λ t. (after_act (meaning t c.args.change) t []).inv) i.stack.invocations
    (λ t. inl (keeps_rest (meaning t c.args.change) t).1)) c.in-Ok.ensures.invocations
    c.in-Ok.ensures.late)

-- the top has made the change
pub returns : goal.returns
returns c =
    let i = c.self.inside in
    let e = c.come_given.ensures in
    let g = c.go_taken.ensures in
    let numbers = numbers_turned i.holders c.come_given.new.self c.go_taken.new.self
    (values_of (given c.args.change)) (values_of (taken c.in-Ok.done.taken))
    (sizes_of (given c.args.change)) e g in
    let s1 = e.spare in
    let s2 = g.spare in
    let n1 = e.names in
    let n2 = g.names in
    rw (← c.self.view_is) (record {
      own = own_stack i c.go_taken.new.self c.change.new.self (with_top
          (λ t. (after_act (meaning t c.args.change) t []).inv) i.stack.invocations) numbers
          (heap_kept i.holders c.come_given.new.self c.go_taken.new.self
          (values_of (given c.args.change)) (values_of (taken c.in-Ok.done.taken))
          (sizes_of (given c.args.change)) e g) c.in-Ok.ensures.invocations c.in-Ok.ensures.late;
      objects = room_kept i.holders c.go_taken.new.self numbers;
      invocations = c.in-Ok.ensures.spare;
      names = omega (arith, s1, s2, n1, n2);
      entries = entries_kept i.exports.spare i.holders c.go_taken.new.self numbers;
    })
