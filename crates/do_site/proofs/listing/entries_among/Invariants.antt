-- The entries of the peers so far.
use Rattle.do_site.proofs.listing.entries_among.Given as goal
use Rattle.std.{proofs.Common.{◌≡◌, take}, specs.List.flat_map}
use Rattle.do_site.specs.Listed.{entries_among}

abbrev pub invariant-loop-peer : goal.invariant-loop-peer
invariant-loop-peer l =
    l.entries ≡ flat_map (λ peer. entries_among l.part.own peer l.oids)
    (take l.peer-index l.peer-items)
