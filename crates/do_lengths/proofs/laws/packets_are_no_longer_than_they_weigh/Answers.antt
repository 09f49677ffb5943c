use Rattle.do_lengths.proofs.laws.packets_are_no_longer_than_they_weigh.Goals as goal
use Rattle.do_lengths.proofs.Names.{packed_fits}

-- a packed message is short
pub returns : goal.returns
returns c s to token values p recent e = packed_fits s to token values recent p e
