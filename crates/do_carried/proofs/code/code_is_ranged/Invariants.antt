use Rattle.do_carried.proofs.code.code_is_ranged.Given as goal
use Rattle.std.proofs.Common.{take}
use Rattle.do_carried.specs.Ranged.{AreRanged}

abbrev pub invariant-loop-place : goal.invariant-loop-place
invariant-loop-place l = AreRanged (take l.place l.code.instructions)
