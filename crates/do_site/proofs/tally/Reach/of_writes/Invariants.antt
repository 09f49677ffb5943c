use Rattle.do_site.proofs.tally.Reach.of_writes.Given as goal
use Rattle.std.proofs.Common.{take}
use Rattle.do_part.specs.{Changed.written_values, Names.{sizes_of, values_of}}
use Rattle.do_site.specs.Stored.{Tallies}

-- what these so far name is counted
abbrev pub invariant-loop-write : goal.invariant-loop-write
invariant-loop-write l = Tallies l.self.part.now.own.node l.self.more
    (values_of (written_values (take l.write-index l.write-items)))
    (sizes_of (written_values (take l.write-index l.write-items))) l.names
