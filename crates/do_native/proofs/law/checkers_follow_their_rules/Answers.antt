use Rattle.do_native.proofs.law.checkers_follow_their_rules.Goals as goal
use Rattle.do_native.proofs.RulesFollowed.{rules_followed}

pub returns : goal.returns
returns c = rules_followed
