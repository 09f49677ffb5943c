use Rattle.do_stack.proofs.law.uses_are_references.Goals as goal
use Rattle.do_stack.proofs.References.{counts_references}

-- uses are above 0 just where an invocation names the object
pub returns : goal.returns
returns c = counts_references
