use Rattle.do_agreement.proofs.laws.counts.effects_account.Goals as goal
use Rattle.do_agreement.proofs.counts.RulesAccount.{leaving_accounts, rule_accounts, take_accounts}

-- by an event's rule
pub returns-clause-rules : goal.returns-clause-rules
returns-clause-rules c = rule_accounts

-- by the take of an item
pub returns-clause-takes : goal.returns-clause-takes
returns-clause-takes c = take_accounts

-- by what is left after a step
pub returns-clause-leaving : goal.returns-clause-leaving
returns-clause-leaving c = leaving_accounts
