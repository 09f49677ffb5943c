-- The peers so far whose end is closed.
use Rattle.do_site.proofs.listing.closed_of.Given as goal
use Rattle.std.proofs.Common.{◌≡◌, filter, not, take}
use Rattle.do_machine.specs.State.{is_open}

abbrev pub invariant-loop-peer : goal.invariant-loop-peer
invariant-loop-peer l =
    l.closed ≡ filter (λ peer. not (is_open l.part.own.node peer)) (take l.peer-index l.peer-items)
