use Rattle.do_spelled.proofs.part.+parts.Given as goal
use Rattle.std.{proofs.Common.take, specs.List.AllByRecursion}
use Rattle.do_coder.specs.Parts.{IsPart}

abbrev pub invariant-have_parts-loop-part : goal.invariant-have_parts-loop-part
invariant-have_parts-loop-part l =
    AllByRecursion (IsPart l.copies l.names l.depth) (take l.part-index l.parts)
