-- The lines up to here were added.
use Rattle.do_lines.proofs.check.push_objects.Given as goal
use Rattle.std.proofs.Common.{◌≡◌, ◌++◌, take, map}
use Rattle.do_lines.specs.{Lines.joined, Check.object_text}

abbrev pub invariant-loop-object : goal.invariant-loop-object
invariant-loop-object l =
    l.out ≡ l.fn.out ++ joined (map (object_text l.table) (take l.object-index l.object-items))
