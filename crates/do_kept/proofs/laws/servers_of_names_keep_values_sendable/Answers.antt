use Rattle.do_kept.proofs.laws.servers_of_names_keep_values_sendable.Goals as goal
use Rattle.do_kept.proofs.Names.{names_keep}

pub returns : goal.returns
returns c = names_keep
