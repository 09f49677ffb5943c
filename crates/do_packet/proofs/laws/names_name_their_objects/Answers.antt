use Rattle.do_packet.proofs.laws.names_name_their_objects.Goals as goal
use Rattle.do_packet.proofs.Named.{names_are}

pub returns : goal.returns
returns c = names_are
