use Rattle.do_kept.proofs.laws.native_acts_keep_values_sendable.Goals as goal
use Rattle.do_kept.proofs.Natives.{natives_keep}

pub returns : goal.returns
returns c = natives_keep
