use Rattle.do_site.proofs.listing.lines_at.Goals as goal
use Rattle.std.proofs.{Common.arith, lemmas.{Grind.common_steps, List.Elements.filter_map-append}}
use Rattle.do_site.proofs.listing.lines_at.Goals.{in-Some+in_ok-push, in_default}

pub loop-oid-preserved : goal.loop-oid-preserved
loop-oid-preserved c = elim c.match-branch-2.branch [
  | in-Some+in_ok-push w ↦ grind (arith, common_steps, filter_map-append)
  | in_default w ↦ grind (arith, common_steps, filter_map-append)
]
