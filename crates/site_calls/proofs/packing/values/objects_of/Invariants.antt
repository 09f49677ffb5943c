use Rattle.site_calls.proofs.packing.values.objects_of.Given as goal
use Rattle.std.proofs.Common.{◌≡◌, length}

abbrev pub invariant-loop-serial : goal.invariant-loop-serial
invariant-loop-serial l = length l.oids ≡ l.serial
