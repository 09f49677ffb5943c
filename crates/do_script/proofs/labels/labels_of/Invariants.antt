use Rattle.do_script.proofs.labels.labels_of.Given as goal
use Rattle.std.{proofs.Common.{◌≡◌, ◌+◌, ◌≤◌, ℕ, List, length}, specs.Option.option_or}
use Rattle.do_script.specs.{Labels.label_in, Program.{program, label_from, size}}

abbrev pub invariant-loop-line : goal.invariant-loop-line
invariant-loop-line l = record {
  labels : (name : List ℕ)
      → label_from 0 0 (program l.text) name ≡ option_or (label_in l.found name)
      (label_from l.number l.found.instructions (program l.rest) name);
  count : size (program l.text) ≡ l.found.instructions + size (program l.rest);
  few : l.found.instructions ≤ l.number;
  within : l.number + length l.rest ≤ length l.text;
}

abbrev pub decreases-loop-line : goal.decreases-loop-line
decreases-loop-line l = length l.rest
