-- All events so far are pieces that fit.
use Rattle.whole_runs.proofs.links.script_of.Given as goal
use Rattle.std.specs.List.{All}
use Rattle.do_link.specs.InMemory.{IsPiece}

abbrev pub invariant-loop-value : goal.invariant-loop-value
invariant-loop-value l = All IsPiece l.script
