use Rattle.do_network.proofs.laws.sites.skipped_changes_nothing.Goals as goal
use Rattle.do_network.proofs.EnabledIsDone.{enabled_done, skipped_stays}

pub returns : goal.returns
returns c table act p input skipped =
    skipped_stays p _ (enabled_done table act p input) skipped
