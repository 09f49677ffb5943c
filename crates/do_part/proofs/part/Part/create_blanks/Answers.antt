use Rattle.do_part.proofs.part.Part.create_blanks.Goals as goal
use Rattle.std.{proofs.Common.{ap, arith}, specs.Vec.Iter.into_iter_items}
use Rattle.do_machine.specs.Objects.{object_at}
use Rattle.do_part.specs.{Filled.made_values, Names.sizes_of}
use Rattle.do_part.proofs.{Bounds.values-le, Filled.made-cons}

-- a blank object names nothing
pub create-requires-clause-stored : goal.create-requires-clause-stored
create-requires-clause-stored c = λ n above.
    let b = c.in-Some.blank in
    let none = c.loop-blank.invariant.blank in
    let step = ap (λ l. sizes_of (made_values l)) c.in-Some.ensures.steps.0 in
    let size = made-cons b (into_iter_items c.next.new.self) in
    let l = values-le (object_at c.loop-blank.self.own.node.port n) b.slots in
    absurd (omega (arith, none, step, size, l, above))
