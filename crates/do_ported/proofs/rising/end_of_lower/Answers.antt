use Rattle.do_ported.proofs.rising.end_of_lower.Goals as goal
use Rattle.std.{proofs.Common.{rules, ltb, subst, sym}, specs.List.Sorted.IsNonDecreasingBy}
use Rattle.std.proofs.lemmas.List.Sorted.{IsPartitionPoint-from_clause, IsPartitionedBy-ltb}
use Rattle.do_ported.specs.Rising.{IsHalved}

pub returns : goal.returns
returns g c =
    let n = g.T.Ported.port in
    let port = c.args.port in
    let listed = c.as_slice.result.now in
    let rising = subst (IsNonDecreasingBy n) (sym c.as_slice.ensures) c.requires in
    subst (λ xs. IsHalved n port xs c.partition_point.result) c.as_slice.ensures
    (IsPartitionPoint-from_clause (λ y. ltb (n y) port) listed c.partition_point.result
    c.partition_point.ensures.partitioned (IsPartitionedBy-ltb n listed port rising)
    (λ a r f called. search rules))
