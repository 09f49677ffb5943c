use Rattle.do_center.proofs.posting.came_to_all.Given as goal
use Rattle.std.proofs.Common.{◌≡◌}
use Rattle.do_center.specs.Posting.{came}

abbrev pub invariant-loop-at : goal.invariant-loop-at
invariant-loop-at l = l.posting ≡ came l.note l.immediate l.suspended l.seats l.at
