use Rattle.do_leaks.proofs.holders.note_line.Goals as goal
use Rattle.do_leaks.proofs.Holding.{holder_in_more}

pub loop-at-preserved : goal.loop-at-preserved
loop-at-preserved c = λ o.
    holder_in_more _ c.args.line.now.oid c.args.line.now.slots c.loop-at.at c.value-item.result o
    (rw c.as_slice-value-items.ensures at c.loop-at-test.true)
    (rw c.as_slice-value-items.ensures at c.value-item.is) (c.loop-at.invariant o)
    (rw (c.in_ok-push_objects.ensures, c.clear.ensures) at (c.in_ok-note_all.ensures o))
