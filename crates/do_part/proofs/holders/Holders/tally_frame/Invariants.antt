use Rattle.do_part.proofs.holders.Holders.tally_frame.Given as goal
use Rattle.std.proofs.Common.{take}
use Rattle.do_part.specs.{Names.{values_of, sizes_of}, Holding.Tallied}

-- what the locals so far name is counted
abbrev pub invariant-loop-held : goal.invariant-loop-held
invariant-loop-held l = Tallied l.by l.initial.self l.self
    (values_of (take l.held-index l.held-items)) (sizes_of (take l.held-index l.held-items))
