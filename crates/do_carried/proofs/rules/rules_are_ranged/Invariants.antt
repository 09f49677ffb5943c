use Rattle.do_carried.proofs.rules.rules_are_ranged.Given as goal
use Rattle.std.proofs.Common.{take}
use Rattle.do_carried.specs.Ranged.{RulesAreRanged}

abbrev pub invariant-loop-of_class : goal.invariant-loop-of_class
invariant-loop-of_class l = RulesAreRanged (take l.of_class-index l.rules)
