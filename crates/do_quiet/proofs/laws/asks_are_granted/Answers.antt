use Rattle.do_quiet.proofs.laws.asks_are_granted.Goals as goal
use Rattle.do_quiet.proofs.AsksGranted.{reached_granted}

pub returns : goal.returns
returns c = reached_granted
