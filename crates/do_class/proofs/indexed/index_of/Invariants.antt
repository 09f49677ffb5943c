use Rattle.do_class.proofs.indexed.index_of.Given as goal
use Rattle.std.specs.Prelude.{take}
use Rattle.do_class.specs.{Class.selectors_of, Index.IsIndexOf}

abbrev pub invariant-loop-place : goal.invariant-loop-place
invariant-loop-place l = IsIndexOf (selectors_of (take l.place l.methods)) l.places
