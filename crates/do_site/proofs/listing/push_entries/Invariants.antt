-- The entries of the names so far.
use Rattle.do_site.proofs.listing.push_entries.Given as goal
use Rattle.std.proofs.Common.{◌≡◌, ◌++◌, take}
use Rattle.do_site.specs.Listed.{entries_among}

abbrev pub invariant-loop-oid : goal.invariant-loop-oid
invariant-loop-oid l =
    l.entries ≡ l.fn.entries ++ entries_among l.part.own l.peer (take l.oid-index l.oid-items)
