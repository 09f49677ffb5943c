-- The text begins with the lines so far, if the form's lines are read.
use Rattle.do_plan.proofs.reading.lines_of.Given as goal
use Rattle.std.proofs.Common.{◌≡◌, ◌+◌, ◌≤◌, length}
use Rattle.do_grammar.specs.Lines.{cut}
use Rattle.do_plan.specs.{Form.Opens, Reading.Reads}

abbrev pub invariant-lines : goal.invariant-lines
invariant-lines g l = record {
  opens : Reads g.F.LineForm.form g.F.LineForm.line_at
      → Opens g.F.LineForm.form l.bytes l.lines (cut l.rest);
  number : l.number ≡ length l.lines + 1;
  room : l.number + length l.rest ≤ length l.bytes;
}

abbrev pub decreases-lines : goal.decreases-lines
decreases-lines g l = length l.rest
