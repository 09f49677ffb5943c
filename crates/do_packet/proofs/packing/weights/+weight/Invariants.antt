use Rattle.do_packet.proofs.packing.weights.+weight.Given as goal
use Rattle.std.proofs.Common.{◌≡◌, take, sum_by}
use Rattle.do_base.specs.values.Values.{weight_of}
use Rattle.do_packet.specs.Packing.{capped}

abbrev pub invariant-sum_of_weights-loop-value : goal.invariant-sum_of_weights-loop-value
invariant-sum_of_weights-loop-value l =
    l.sum ≡ capped (sum_by weight_of (take l.value-index l.value-items))
