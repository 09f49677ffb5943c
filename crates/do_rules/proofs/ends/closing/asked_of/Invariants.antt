use Rattle.do_rules.proofs.ends.closing.asked_of.Given as goal
use Rattle.std.proofs.Common.{◌≡◌, take, filter, ◌==◌}

abbrev pub invariant-loop-wanted : goal.invariant-loop-wanted
invariant-loop-wanted l =
    l.asks ≡ filter (λ x. x.object.node == l.peer) (take l.wanted-index l.wanted-items)
