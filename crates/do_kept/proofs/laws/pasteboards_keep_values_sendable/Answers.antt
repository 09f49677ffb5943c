use Rattle.do_kept.proofs.laws.pasteboards_keep_values_sendable.Goals as goal
use Rattle.do_kept.proofs.Boards.{pasteboards_keep}

pub returns : goal.returns
returns c = pasteboards_keep
