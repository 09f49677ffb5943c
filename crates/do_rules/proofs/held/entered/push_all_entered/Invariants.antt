use Rattle.do_rules.proofs.held.entered.push_all_entered.Given as goal
use Rattle.std.{proofs.Common.{◌≡◌, ◌++◌, take}, specs.List.flat_map}
use Rattle.do_rules.specs.HeldUp.{entered}

abbrev pub invariant-loop-peer : goal.invariant-loop-peer
invariant-loop-peer l =
    l.objects ≡ l.fn.objects
    ++ flat_map (entered l.state l.node.port) (take l.peer-index l.peer-items)
