use Rattle.do_part.proofs.holders.Holders.+tally.Given as goal
use Rattle.std.proofs.Common.{◌+◌, take, sum_by}
use Rattle.do_base.specs.values.Values.{weight_of}
use Rattle.do_part.specs.{Names.{counted, values_of, sizes_of}, Holding.Tallied}

-- what the items so far name is counted
abbrev pub invariant-tally_values-loop-value : goal.invariant-tally_values-loop-value
invariant-tally_values-loop-value l = Tallied l.by l.initial.self l.self
    (counted l.all l.initial.self.node (values_of (take l.value-index l.value-items)))
    (sizes_of (take l.value-index l.value-items))

-- values inside weigh less
abbrev pub decreases-tally_value : goal.decreases-tally_value
decreases-tally_value l = weight_of l.value.now

abbrev pub decreases-tally_values : goal.decreases-tally_values
decreases-tally_values l = sum_by weight_of l.values.now + 1
