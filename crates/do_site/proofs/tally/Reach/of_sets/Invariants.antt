use Rattle.do_site.proofs.tally.Reach.of_sets.Given as goal
use Rattle.std.proofs.Common.{take}
use Rattle.do_part.specs.{Changed.set_values, Names.{sizes_of, values_of}}
use Rattle.do_site.specs.Stored.{Tallies}

-- what these so far name is counted
abbrev pub invariant-loop-set : goal.invariant-loop-set
invariant-loop-set l = Tallies l.self.part.now.own.node l.self.more
    (values_of (set_values (take l.set-index l.sets)))
    (sizes_of (set_values (take l.set-index l.sets)))
    l.names
