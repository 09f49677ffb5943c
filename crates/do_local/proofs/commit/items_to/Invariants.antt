-- The items of the parcels so far that go to the peer.
use Rattle.do_local.proofs.commit.items_to.Given as goal
use Rattle.std.proofs.Common.{◌≡◌, filter, map, take, ◌==◌}

abbrev pub invariant-loop-parcel : goal.invariant-loop-parcel
invariant-loop-parcel l =
    l.items ≡ map (λ p. p.item) (filter (λ p. p.to == l.to) (take l.parcel-index l.parcel-items))
