-- The lines up to here were added.
use Rattle.do_lines.proofs.shown.push_all_shown.Given as goal
use Rattle.std.proofs.Common.{◌≡◌, ◌++◌, take, map}
use Rattle.do_lines.specs.{Shown.shown_text, Lines.joined}

abbrev pub invariant-loop-one : goal.invariant-loop-one
invariant-loop-one l =
    l.out ≡ l.fn.out ++ joined (map (shown_text l.port) (take l.one-index l.one-items))
