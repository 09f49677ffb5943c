use Rattle.do_agreement.proofs.laws.classes.sent_names_tell_classes.Goals as goal
use Rattle.do_agreement.proofs.told.{RulesTold.rule_told, TakesTold.{leaving_told, take_told}}

pub returns-clause-rules : goal.returns-clause-rules
returns-clause-rules c = rule_told

pub returns-clause-takes : goal.returns-clause-takes
returns-clause-takes c = take_told

pub returns-clause-leaving : goal.returns-clause-leaving
returns-clause-leaving c = leaving_told
