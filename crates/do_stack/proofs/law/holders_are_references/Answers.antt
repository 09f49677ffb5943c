use Rattle.do_stack.proofs.law.holders_are_references.Goals as goal
use Rattle.do_stack.proofs.References.{counts_holders}

-- an own object has a holder or is named in a slot just where it stays
pub returns : goal.returns
returns c = counts_holders
