use Rattle.do_rules.proofs.take.messages.+receive_names.Given as goal
use Rattle.std.proofs.Common.{length, ◌-◌}

abbrev pub decreases-receive_names : goal.decreases-receive_names
decreases-receive_names l = length l.names.now
