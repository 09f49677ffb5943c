-- No word so far is too long, and the room for one keeps its length.
use Rattle.do_host.proofs.words.words_within.Given as goal
use Rattle.std.{proofs.Common.{◌≡◌, ◌≤◌, length}, specs.List.All}

abbrev pub invariant-loop-i : goal.invariant-loop-i
invariant-loop-i g l = record {
  short : All (λ word. length word ≤ l.longest) l.words;
  room : length l.word.items ≡ l.longest;
}
