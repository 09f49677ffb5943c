use Rattle.site_calls.proofs.packing.values.objects.Given as goal
use Rattle.std.proofs.Common.{◌≡◌, ◌*◌, length, sum_by}
use Rattle.do_base.specs.values.Values.{weight_of}

abbrev pub invariant-loop-oid : goal.invariant-loop-oid
invariant-loop-oid l =
    (length l.values ≡ l.oid-index) × (sum_by weight_of l.values ≡ 48 * l.oid-index)
