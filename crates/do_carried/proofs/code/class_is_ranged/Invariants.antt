use Rattle.do_carried.proofs.code.class_is_ranged.Given as goal
use Rattle.std.{proofs.Common.take, specs.List.AllByRecursion}
use Rattle.do_carried.specs.Ranged.{CodeIsRanged}

abbrev pub invariant-loop-code : goal.invariant-loop-code
invariant-loop-code l = AllByRecursion CodeIsRanged (take l.code-index l.codes)
