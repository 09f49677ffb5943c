use Rattle.do_services.proofs.services.read_each.Given as goal
use Rattle.std.proofs.Common.{◌≡◌, [], drop}
use Rattle.do_services.proofs.ReadEach.{read_into}

abbrev pub invariant-loop-value : goal.invariant-loop-value
invariant-loop-value l =
    read_into l.table (drop l.value-index l.value-items) ≡ read_into [] l.value-items
