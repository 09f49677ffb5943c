use Rattle.do_facts.proofs.laws.steps.steps_are_of_one_node.Goals as goal
use Rattle.do_machine.specs.Step.{step}
use Rattle.do_facts.proofs.steps.{EachIsStep.step_is, OthersStay.{class_stays, node_stays}}
use Rattle.do_facts.proofs.steps.RuleMoves.{rule_moves}

pub returns-clause-form : goal.returns-clause-form
returns-clause-form c table act S event = step_is S table act event

pub returns-clause-acts : goal.returns-clause-acts
returns-clause-acts c = rule_moves

pub returns-clause-others : goal.returns-clause-others
returns-clause-others c table act S event other =
    node_stays S event (step table act S event) (step_is S table act event) other

pub returns-clause-classes : goal.returns-clause-classes
returns-clause-classes c table act S event o class =
    class_stays o class S event (step table act S event) (step_is S table act event)
