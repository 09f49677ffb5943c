use Rattle.do_carried.proofs.code.codes_are_ranged.Given as goal
use Rattle.std.proofs.Common.{take}
use Rattle.do_carried.specs.Ranged.{CodesAreRanged}

abbrev pub invariant-loop-of_class : goal.invariant-loop-of_class
invariant-loop-of_class l = CodesAreRanged (take l.of_class-index l.codes)
