use Rattle.do_node.proofs.commands.write_made.Goals as goal
use Rattle.std.proofs.Common.{subst}
use Rattle.do_node.{specs.Within.IsBounded, proofs.KeptWithin.{ran_tells, world_bounded}}

-- what was said of the world and the lines that were made is said of those that the words mean
pub returns-clause-one_machine_first : goal.returns-clause-one_machine_first
returns-clause-one_machine_first g c =
    rw c.in_ok-world.ensures.value at rw c.in_ok-lines.ensures at
    c.write_summary.ensures.one_machine_first

-- all that was done stays within what frames can spell
pub returns-clause-within : goal.returns-clause-within
returns-clause-within g c =
    ran_tells _ _ (subst IsBounded c.in_ok-world.ensures.value
    (world_bounded c.in_ok-world.world c.in_ok-world.ensures.sound)) c.write_summary.result
