use Rattle.do_script.proofs.operands.locals_of.Given as goal
use Rattle.std.proofs.Common.{◌≡◌, ◌<◌, ◌+◌, ◌++◌, length, All, Ok}
use Rattle.do_script.specs.{Fault.◌>>=◌, Words.words, Operands.locals}

abbrev pub invariant-loop-word : goal.invariant-loop-word
invariant-loop-word l =
    (locals (words l.operands) ≡ (locals (words l.rest) >>= λ ks. Ok (l.locals ++ ks))) × All
    (λ k. k < 16) l.locals × (length l.locals + length (words l.rest) ≡ length (words l.operands))

abbrev pub decreases-loop-word : goal.decreases-loop-word
decreases-loop-word l = length l.rest
