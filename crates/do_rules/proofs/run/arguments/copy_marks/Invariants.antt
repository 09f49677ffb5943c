use Rattle.do_rules.proofs.run.arguments.copy_marks.Given as goal
use Rattle.std.proofs.Common.{◌≡◌, map, take}
use Rattle.do_sig.specs.Calls.{qualifiers_of}

abbrev pub invariant-loop-k : goal.invariant-loop-k
invariant-loop-k l = l.marks ≡ map (λ q. q.copy) (take l.k (qualifiers_of l.signature))
