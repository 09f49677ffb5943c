-- The pairs that were put into the log so far.
use Rattle.do_streams.proofs.names.table_of.Given as goal
use Rattle.std.proofs.Common.{◌≡◌, take}

-- the log has those that were passed
abbrev pub invariant-loop-pair : goal.invariant-loop-pair
invariant-loop-pair l = l.log.now ≡ take l.pair-index l.fn.pairs
