use Rattle.do_rules.proofs.run.answers.values_in.Given as goal
use Rattle.std.proofs.Common.{◌≡◌, take}

abbrev pub invariant-loop-local : goal.invariant-loop-local
invariant-loop-local l =
    l.values ≡ take l.local-index l.local-items
