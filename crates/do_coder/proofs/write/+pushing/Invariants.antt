use Rattle.do_coder.proofs.write.+pushing.Given as goal
use Rattle.std.{proofs.Common.{◌≡◌, ◌++◌, take}, specs.List.flat_map}
use Rattle.do_coder.specs.Parts.{part_spelling}

abbrev pub invariant-push_parts-loop-part : goal.invariant-push_parts-loop-part
invariant-push_parts-loop-part l =
    l.out ≡ l.initial.out ++ flat_map part_spelling (take l.part-index l.parts)
