use Rattle.do_network.proofs.laws.counts.sent_names_are_counted.Goals as goal
use Rattle.do_machine.specs.Items.{exported}
use Rattle.do_network.proofs.CountsFollow.{named_counts}

pub returns : goal.returns
returns c port counts x serial = named_counts x.to serial (exported port x.to x.item) counts
