use Rattle.do_site.proofs.tally.Reach.of_locals.Given as goal
use Rattle.std.proofs.Common.{take}
use Rattle.do_part.specs.Names.{sizes_of, values_of}
use Rattle.do_site.specs.Stored.{Tallies}

-- what these so far name is counted
abbrev pub invariant-loop-local : goal.invariant-loop-local
invariant-loop-local l = Tallies l.self.part.now.own.node l.self.more
    (values_of (take l.local-index l.local-items)) (sizes_of (take l.local-index l.local-items))
    l.names
