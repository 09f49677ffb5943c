use Rattle.do_sched.proofs.reading.lines_of.Given as goal
use Rattle.std.proofs.Common.{◌≡◌, ◌+◌, ◌≤◌, length}
use Rattle.do_grammar.specs.Lines.{cut}
use Rattle.do_sched.specs.{Spelling.steps_of, Schedule.Opens}

abbrev pub invariant-lines : goal.invariant-lines
invariant-lines l = record {
  opens : Opens l.version l.bytes l.lines (cut l.rest);
  number : l.number ≡ length l.lines + 1;
  steps : l.steps ≡ steps_of l.lines;
  room : l.number + length l.rest ≤ length l.bytes;
}

abbrev pub decreases-lines : goal.decreases-lines
decreases-lines l = length l.rest
