use Rattle.do_leaks.proofs.rest.add_all.Goals as goal
use Rattle.do_leaks.specs.Rest.{joined, named_at, named_from}
use Rattle.do_leaks.proofs.{Growing.grown, Naming.{joined_assoc, joined_none, named_from-append}}

pub loop-line-preserved : goal.loop-line-preserved
loop-line-preserved c = λ o.
    grown (λ xs. named_from xs o) joined (λ xs ys. named_from-append xs ys o) joined_assoc
    c.as_slice-line-items.result.now c.loop-line.line-index c.line-item.result
    (named_at c.line-item.result o) c.loop-line-test.true c.line-item.is
    (joined_none (named_at c.line-item.result o)) (c.loop-line.invariant o) (c.in_ok-add.ensures o)
