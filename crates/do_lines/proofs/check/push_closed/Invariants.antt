-- The lines up to here were added.
use Rattle.do_lines.proofs.check.push_closed.Given as goal
use Rattle.std.proofs.Common.{◌≡◌, ◌++◌, take, map}
use Rattle.do_lines.specs.{Lines.joined, Check.closed_line}

abbrev pub invariant-loop-peer : goal.invariant-loop-peer
invariant-loop-peer l =
    l.out ≡ l.fn.out ++ joined (map closed_line (take l.peer-index l.peer-items))
