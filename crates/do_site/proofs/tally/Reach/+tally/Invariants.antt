use Rattle.do_site.proofs.tally.Reach.+tally.Given as goal
use Rattle.std.proofs.Common.{◌+◌, take, sum_by}
use Rattle.do_base.specs.values.Values.{weight_of}
use Rattle.do_part.specs.Names.{sizes_of, values_of}
use Rattle.do_site.specs.Stored.{Tallies}

-- what the values so far name is counted
abbrev pub invariant-of_values-loop-value : goal.invariant-of_values-loop-value
invariant-of_values-loop-value l = Tallies l.self.part.now.own.node l.self.more
    (values_of (take l.value-index l.values)) (sizes_of (take l.value-index l.values)) l.names

-- values inside weigh less
abbrev pub decreases-of_value : goal.decreases-of_value
decreases-of_value l = weight_of l.value.now

-- so does a list of them, with one for the list itself
abbrev pub decreases-of_values : goal.decreases-of_values
decreases-of_values l = sum_by weight_of l.values.now + 1
