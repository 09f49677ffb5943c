use Rattle.do_world.proofs.counter_world.go_code.Goals as goal
use Rattle.do_world.proofs.CounterTexts.{go_has_no_fault, go_is_code}

pub code_of-requires : goal.code_of-requires
code_of-requires c = go_has_no_fault _ _ c.new.ensures c.requires

pub returns : goal.returns
returns c = go_is_code _ _ _ c.new.ensures c.requires c.code_of-2.ensures
