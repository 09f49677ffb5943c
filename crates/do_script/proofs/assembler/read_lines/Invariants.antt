use Rattle.do_script.proofs.assembler.read_lines.Given as goal
use Rattle.std.proofs.Common.{◌+◌, ◌≤◌, length, All}
use Rattle.do_script.specs.{Labels.{scope_in, IsInScope}, Program.program}
use Rattle.do_script.proofs.LinesRead.{Reached}

abbrev pub invariant-loop-line : goal.invariant-loop-line
invariant-loop-line l = record {
  read : Reached (scope_in l.names) (program l.text) l.number (program l.rest) l.code.items;
  scope : All (IsInScope l.names) l.code.items;
  within : l.number + length l.rest ≤ length l.text;
}

abbrev pub decreases-loop-line : goal.decreases-loop-line
decreases-loop-line l = length l.rest
