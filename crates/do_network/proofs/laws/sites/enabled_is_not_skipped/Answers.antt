use Rattle.do_network.proofs.laws.sites.enabled_is_not_skipped.Goals as goal
use Rattle.do_network.proofs.EnabledIsDone.{enabled_done}

pub returns : goal.returns
returns c table act p input h enabled = enabled_done table act p input h enabled
