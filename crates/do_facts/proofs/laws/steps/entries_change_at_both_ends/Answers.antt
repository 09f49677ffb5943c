use Rattle.do_facts.proofs.laws.steps.entries_change_at_both_ends.Goals as goal
use Rattle.do_machine.specs.Step.{step}
use Rattle.do_facts.proofs.steps.{EachIsStep.step_is, EntriesOfSteps.entry_stays}

pub returns : goal.returns
returns c table act S event peer o =
    entry_stays S event (step table act S event) (step_is S table act event) peer o
