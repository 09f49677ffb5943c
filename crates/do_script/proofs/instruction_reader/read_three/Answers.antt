use Rattle.do_script.proofs.instruction_reader.read_three.Goals as goal
use Rattle.std.proofs.Common.{rules}
use Rattle.do_script.specs.Operands.{instruction}

pub returns : goal.returns
unfolding instruction
returns c = (search rules, c.with_three.ensures.within _ _ _)
