use Rattle.do_carried.proofs.rules.class_is_ranged.Given as goal
use Rattle.std.{proofs.Common.take, specs.List.AllByRecursion}
use Rattle.do_carried.specs.Ranged.{RuleIsRanged}

abbrev pub invariant-loop-rule : goal.invariant-loop-rule
invariant-loop-rule l = AllByRecursion RuleIsRanged (take l.rule-index l.rules)
