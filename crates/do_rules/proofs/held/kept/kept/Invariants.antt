use Rattle.do_rules.proofs.held.kept.kept.Given as goal
use Rattle.std.proofs.Common.{◌≡◌}
use Rattle.do_machine.specs.held.Kept.{kept, struck_by}
use Rattle.do_rules.specs.Judged.{entry_in}

abbrev pub invariant-loop-rounds : goal.invariant-loop-rounds
invariant-loop-rounds l =
    struck_by l.rounds (entry_in l.state l.node) l.node l.heap
    ≡ kept (entry_in l.state l.node) l.node

abbrev pub decreases-loop-rounds : goal.decreases-loop-rounds
decreases-loop-rounds l = l.rounds
