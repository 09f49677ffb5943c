use Rattle.do_objects.proofs.laws.freed_objects_never_return.Goals as goal
use Rattle.do_objects.proofs.Sound.{never_returns}

pub returns : goal.returns
returns c = never_returns
