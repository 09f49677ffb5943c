use Rattle.do_store.proofs.counting.+raise.Given as goal
use Rattle.std.proofs.Common.{take}
use Rattle.do_store.specs.{Names.values_name, Steps.Raises}

abbrev pub invariant-raise_values-loop-value : goal.invariant-raise_values-loop-value
invariant-raise_values-loop-value l =
    Raises l.port l.initial.table l.table
    (λ n. values_name l.port n (take l.value-index l.value-items))
