use Rattle.do_native_acts.proofs.steps.changes.Given as goal
use Rattle.std.proofs.Common.{◌≡◌, ◌++◌, drop}
use Rattle.do_native_acts.specs.Steps.{changes}

abbrev pub invariant-loop-slot : goal.invariant-loop-slot
invariant-loop-slot l =
    l.writes ++ changes l.slot (drop l.slot l.before) (drop l.slot l.after)
    ≡ changes 0 l.before l.after
