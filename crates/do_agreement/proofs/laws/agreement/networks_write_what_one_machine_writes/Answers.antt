use Rattle.do_agreement.proofs.laws.agreement.networks_write_what_one_machine_writes.Goals as goal
use Rattle.do_agreement.proofs.texts.TextsAgree.{world_blocks, world_text}

-- lines come to the same blocks
pub returns-clause-blocks : goal.returns-clause-blocks
returns-clause-blocks c = world_blocks

-- and to the same text, with what was sent put in
pub returns-clause-text : goal.returns-clause-text
returns-clause-text c = world_text
