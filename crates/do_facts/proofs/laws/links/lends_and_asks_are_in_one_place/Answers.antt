use Rattle.do_facts.proofs.laws.links.lends_and_asks_are_in_one_place.Goals as goal
use Rattle.do_facts.proofs.links.ReachedLinks.{opening_keeps, reached_keeps, reached_known}
use Rattle.do_facts.proofs.links.ReachedLinks.{step_keeps}

pub returns : goal.returns
returns c = record {
  opening = opening_keeps;
  steps = step_keeps;
  schedules = reached_keeps;
  reports = reached_known;
}
