use Rattle.do_facts.proofs.laws.machine.nodes.held_over_open_ends.Goals as goal
use Rattle.do_machine.specs.Step.{step}
use Rattle.do_facts.proofs.machine.{Opening.opening_holds, follows.Every.{all_hold, grow_steps}}

pub returns : goal.returns
returns c = record {
  opening = opening_holds;
  steps = λ table act S event.
      all_hold S (step table act S event).state (grow_steps table act S event);
}
