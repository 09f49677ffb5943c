use Rattle.do_behave.proofs.messages.values_of.Given as goal
use Rattle.std.proofs.Common.{◌≡◌, Some, take}
use Rattle.do_behave.specs.Steps.{local_values}

abbrev pub invariant-loop-k : goal.invariant-loop-k
invariant-loop-k l = local_values l.inv (take l.k-index l.k-items) ≡ Some l.values
