use Rattle.do_facts.proofs.laws.calls.calls_are_in_one_place.Goals as goal
use Rattle.do_facts.proofs.calls.ReachedCalls.{opening_keeps, reached_keeps, reached_known}
use Rattle.do_facts.proofs.calls.ReachedCalls.{step_keeps}

pub returns : goal.returns
returns c = record {
  opening = opening_keeps;
  steps = step_keeps;
  schedules = reached_keeps;
  answers = reached_known;
}
