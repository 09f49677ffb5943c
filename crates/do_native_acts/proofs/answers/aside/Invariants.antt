use Rattle.do_native_acts.proofs.answers.aside.Given as goal
use Rattle.std.proofs.Common.{◌≡◌, take}
use Rattle.do_native_acts.specs.Places.{aside}

abbrev pub invariant-loop : goal.invariant-loop
invariant-loop l = l.from ≡ aside (take l.index l.items)
