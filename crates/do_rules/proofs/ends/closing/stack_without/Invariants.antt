use Rattle.do_rules.proofs.ends.closing.stack_without.Given as goal
use Rattle.std.proofs.Common.{◌≡◌, take, map}
use Rattle.do_machine.specs.ends.Closing.{without_answer}

abbrev pub invariant-loop-invocation : goal.invariant-loop-invocation
invariant-loop-invocation l =
    l.after ≡ map (without_answer l.peer) (take l.invocation-index l.invocation-items)
