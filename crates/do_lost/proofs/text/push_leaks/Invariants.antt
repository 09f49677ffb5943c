-- The leaks up to here were added.
use Rattle.do_lost.proofs.text.push_leaks.Given as goal
use Rattle.std.proofs.Common.{◌≡◌, ◌++◌, map, take}
use Rattle.do_lines.specs.Lines.{joined}
use Rattle.do_lost.specs.Text.{leak_line}
use Rattle.do_machine.specs.State.{class_of}

abbrev pub invariant-loop-leak : goal.invariant-loop-leak
invariant-loop-leak l =
    l.out ≡ l.fn.out
    ++ joined (map (leak_line l.table (class_of l.state)) (take l.leak-index l.leak-items))
