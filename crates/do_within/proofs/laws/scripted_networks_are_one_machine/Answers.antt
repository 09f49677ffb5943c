use Rattle.do_within.proofs.laws.scripted_networks_are_one_machine.Goals as goal
use Rattle.do_behave.specs.Script.{script}
use Rattle.do_limits.proofs.scripts.Instructions.{scripts_keep}
use Rattle.do_agreement.proofs.texts.TextsAgree.{world_text}
use Rattle.do_within.proofs.schedules.Lines.{bounded_lines}

-- scripts keep values within the limits
pub returns : goal.returns
returns c codes sendable table seats lines world good few =
    world_text table seats world (script codes) lines
    (bounded_lines table (script codes) seats lines world (scripts_keep codes sendable table) good
    few)
