use Rattle.do_world.proofs.counter_world.counter.Goals as goal
use Rattle.std.proofs.Common.{◌∙◌}
use Rattle.do_world.proofs.CounterSound.{sound_by_parts}

pub returns-clause-sound : goal.returns-clause-sound
returns-clause-sound c =
    sound_by_parts _ _ _ _ _ c.in_ok-table.ensures c.in_ok-kinds.ensures c.in_ok-rules.ensures
    (c.new-program.ensures ∙ c.in_ok-codes.ensures) c.in_ok-nodes.ensures
