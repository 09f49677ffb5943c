use Rattle.do_services.proofs.services.shown.Given as goal
use Rattle.std.proofs.Common.{◌≡◌, map, take}
use Rattle.do_services.specs.Core.{row}

abbrev pub invariant-loop-at : goal.invariant-loop-at
invariant-loop-at l = l.rows ≡ map (λ e. row e.1) (take l.at l.services)
