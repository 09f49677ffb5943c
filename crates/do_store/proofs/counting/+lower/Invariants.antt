use Rattle.do_store.proofs.counting.+lower.Given as goal
use Rattle.std.proofs.Common.{take}
use Rattle.do_store.specs.{Names.values_name, Steps.Lowers}

abbrev pub invariant-lower_values-loop-value : goal.invariant-lower_values-loop-value
invariant-lower_values-loop-value l =
    Lowers l.port l.initial.table l.table l.initial.queue l.queue
    (λ n. values_name l.port n (take l.value-index l.value-items))
