-- The classes, and behind them those so far.
use Rattle.do_local.proofs.commit.with_all.Given as goal
use Rattle.std.proofs.Common.{◌≡◌, ◌++◌, take}

abbrev pub invariant-loop-class : goal.invariant-loop-class
invariant-loop-class l = l.all ≡ l.classes ++ take l.class-index l.class-items
