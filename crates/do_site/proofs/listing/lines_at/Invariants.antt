-- The objects of the names so far.
use Rattle.do_site.proofs.listing.lines_at.Given as goal
use Rattle.std.{proofs.Common.{◌≡◌, take}, specs.List.filter_map}
use Rattle.do_site.specs.Listed.{line_at}

abbrev pub invariant-loop-oid : goal.invariant-loop-oid
invariant-loop-oid l =
    l.lines ≡ filter_map (line_at l.part.own.node) (take l.oid-index l.oid-items)
