use Rattle.do_part.proofs.part.heap.filling.nils.Given as goal
use Rattle.std.proofs.Common.{◌≡◌, replicate}
use Rattle.do_base.specs.declared.values.value.Value.TheVariants.{Nil}

-- as many nils as rounds
abbrev pub invariant-loop-at : goal.invariant-loop-at
invariant-loop-at l = l.values ≡ replicate l._at Nil
