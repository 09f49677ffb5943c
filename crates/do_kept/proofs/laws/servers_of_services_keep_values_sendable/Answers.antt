use Rattle.do_kept.proofs.laws.servers_of_services_keep_values_sendable.Goals as goal
use Rattle.do_kept.proofs.Services.{services_keep}

pub returns : goal.returns
returns c = services_keep
