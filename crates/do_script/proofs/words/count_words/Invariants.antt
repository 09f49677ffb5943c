use Rattle.do_script.proofs.words.count_words.Given as goal
use Rattle.std.proofs.Common.{◌≡◌, ◌+◌, ◌≤◌, length}
use Rattle.do_script.specs.Words.{words}

abbrev pub invariant-loop-more : goal.invariant-loop-more
invariant-loop-more l = (l.count + length (words l.rest) ≡ length (words l.line))
    × (l.count + length l.rest ≤ length l.line)

abbrev pub decreases-loop-more : goal.decreases-loop-more
decreases-loop-more l = length l.rest
