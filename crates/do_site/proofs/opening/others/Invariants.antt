-- The ports so far but the one.
use Rattle.do_site.proofs.opening.others.Given as goal
use Rattle.std.proofs.Common.{◌≡◌, filter, not, take, ◌==◌}

abbrev pub invariant-loop-peer : goal.invariant-loop-peer
invariant-loop-peer l =
    l.peers ≡ filter (λ p. not (p == l.port)) (take l.peer-index l.peer-items)
