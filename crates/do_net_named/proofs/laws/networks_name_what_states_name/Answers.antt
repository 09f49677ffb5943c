use Rattle.do_net_named.proofs.laws.networks_name_what_states_name.Goals as goal
use Rattle.do_net_named.proofs.StandsNamed.{named_as_one}

pub returns : goal.returns
returns c = named_as_one
