use Rattle.do_site.proofs.tally.Reach.of_copies.Given as goal
use Rattle.std.proofs.Common.{take}
use Rattle.do_part.specs.{Names.{sizes_of, values_of}, Filled.made_values}
use Rattle.do_site.specs.Stored.{Tallies}

-- what these so far name is counted
abbrev pub invariant-loop-made : goal.invariant-loop-made
invariant-loop-made l = Tallies l.self.part.now.own.node l.self.more
    (values_of (made_values (take l.made-index l.copies)))
    (sizes_of (made_values (take l.made-index l.copies))) l.names
