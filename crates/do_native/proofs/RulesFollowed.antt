-- A checker among classes of other kinds acts by the rules of its class.
use Rattle.do_native.specs.Checked.{FollowTheirRules}

-- its class is one of checkers and has these rules, so its act is theirs
pub rules_followed : FollowTheirRules
rules_followed b rules table inv slots of_checkers has_rules = rw (of_checkers, has_rules)
