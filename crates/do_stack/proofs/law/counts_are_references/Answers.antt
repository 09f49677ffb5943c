use Rattle.do_stack.proofs.law.counts_are_references.Goals as goal
use Rattle.do_stack.proofs.References.{counts_node}

-- uses are above 0 just where the node refers to the object
pub returns : goal.returns
returns c = counts_node
