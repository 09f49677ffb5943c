-- Rules of checkers whose acts keep values within what a message can carry.
use Rattle.std.specs.{Prelude.List, List.AllByRecursion}
use Rattle.do_base.specs.declared.events.exception.Exc.TheVariants.{User}
use Rattle.do_check.specs.declared.rules.{Rule.Rule, Verdict.{Verdict, TheVariants.{Deny, Forward}}}
use Rattle.do_limits.specs.Sendable.{IsSendableExc}

-- the text of a denial can be carried
abbrev pub VerdictIsSendable : Verdict → Type 0
VerdictIsSendable Forward = Unit {0}
VerdictIsSendable (Deny text) = IsSendableExc (User text)

-- so can those of all rules
abbrev pub RulesAreSendable : List Rule → Type 0
RulesAreSendable rules = AllByRecursion (λ r. VerdictIsSendable r.verdict) rules
