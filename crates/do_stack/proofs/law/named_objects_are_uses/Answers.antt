use Rattle.do_stack.proofs.law.named_objects_are_uses.Goals as goal
use Rattle.do_stack.proofs.ObjectsOnce.{counts_once}

-- each object that a value names counts once, as its uses do
pub returns : goal.returns
returns c = counts_once
