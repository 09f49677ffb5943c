use Rattle.do_facts.proofs.laws.machine.first_version.first_schedules_as_in_version_1.Goals as goal
use Rattle.do_facts.proofs.machine.{Opening.opening_on_time, first.Lines.same_blocks}
use Rattle.do_facts.proofs.machine.first.Steps.{same_step, stays_on_time}

pub returns : goal.returns
returns c = record {
  opening = opening_on_time;
  stays = stays_on_time;
  steps = same_step;
  blocks = same_blocks;
}
