use Rattle.do_lengths.proofs.laws.payloads_are_within_the_limit.Goals as goal
use Rattle.do_lengths.proofs.Frames.{payload_short}

-- each payload is within the limit
pub returns : goal.returns
returns c s f recent is short = payload_short s f recent is short
