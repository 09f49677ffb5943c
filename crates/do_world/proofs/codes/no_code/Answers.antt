use Rattle.do_world.proofs.codes.no_code.Goals as goal
use Rattle.do_world.proofs.NoCode.{empty_has_no_fault, empty_is_code}

pub code_of-requires : goal.code_of-requires
code_of-requires c = empty_has_no_fault _ _ c.new-none.ensures c.new-none.ensures

pub returns : goal.returns
returns c = empty_is_code _ _ _ c.new-none.ensures c.new-none.ensures c.code_of.ensures
