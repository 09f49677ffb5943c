-- The lines up to here were added.
use Rattle.do_woven.proofs.text.push_lines.Given as goal
use Rattle.std.{proofs.Common.{◌≡◌, ◌++◌, take}, specs.List.flat_map}
use Rattle.do_sched.specs.Spelling.{fed, line_spelling}

abbrev pub invariant-loop-line : goal.invariant-loop-line
invariant-loop-line l =
    l.out ≡ l.fn.out ++ flat_map (λ x. fed (line_spelling x)) (take l.line-index l.line-items)
