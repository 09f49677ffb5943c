use Rattle.do_leaks.proofs.holders.note_lines.Goals as goal
use Rattle.std.specs.Option.{option_or}
use Rattle.do_leaks.specs.Leaks.{holder, holder_in}
use Rattle.do_leaks.proofs.{Growing.grown, Holding.{holder-append, option_or_assoc, option_or_none}}

pub loop-line-preserved : goal.loop-line-preserved
loop-line-preserved c = λ o.
    grown (λ xs. holder xs o) option_or (λ xs ys. holder-append xs ys o) option_or_assoc
    c.as_slice-line-items.result.now c.loop-line.line-index c.line-item.result
    (holder_in c.line-item.result.oid 0 c.line-item.result.slots o)
    c.loop-line-test.true c.line-item.is
    (option_or_none (holder_in c.line-item.result.oid 0 c.line-item.result.slots o))
    (c.loop-line.invariant o) (c.in_ok-note_line.ensures o)
