use Rattle.do_facts.proofs.laws.steps.queues_change_at_their_ends.Goals as goal
use Rattle.do_base.specs.declared.events.event.Event.TheVariants.{Lose, Take}
use Rattle.do_machine.specs.Step.{step}
use Rattle.do_facts.proofs.steps.{EachIsStep.step_is, QueuesAbsent.absent_stays}
use Rattle.do_facts.proofs.steps.QueuesOfSteps.{loses_one, queue_grows, queue_stays, takes_oldest}

pub returns-clause-others : goal.returns-clause-others
returns-clause-others c table act S event from to =
    queue_stays S event (step table act S event) (step_is S table act event) from to

pub returns-clause-behind : goal.returns-clause-behind
returns-clause-behind c table act S event from to waiting =
    queue_grows S event (step table act S event) (step_is S table act event) from to waiting

pub returns-clause-absent : goal.returns-clause-absent
returns-clause-absent c table act S event from to =
    absent_stays from to S event (step table act S event) (step_is S table act event)

pub returns-clause-takes : goal.returns-clause-takes
returns-clause-takes c table act S port from =
    takes_oldest S port from (step table act S (Take port from))
    (step_is S table act (Take port from))

pub returns-clause-loses : goal.returns-clause-loses
returns-clause-loses c table act S from to k =
    loses_one S from to k (step table act S (Lose from to k)) (step_is S table act (Lose from to k))
