use Rattle.do_objects.proofs.laws.slots_are_written_by_own_acts.Goals as goal
use Rattle.do_objects.proofs.Sound.{has_writes}

pub returns : goal.returns
returns c = has_writes
