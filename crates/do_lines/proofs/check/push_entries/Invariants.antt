-- The lines up to here were added.
use Rattle.do_lines.proofs.check.push_entries.Given as goal
use Rattle.std.proofs.Common.{◌≡◌, ◌++◌, take, map}
use Rattle.do_lines.specs.{Lines.joined, Check.entry_line}

abbrev pub invariant-loop-entry : goal.invariant-loop-entry
invariant-loop-entry l =
    l.out ≡ l.fn.out ++ joined (map entry_line (take l.entry-index l.entry-items))
