use Rattle.do_streams.proofs.spelling.is_greeted.Goals as goal
use Rattle.std.proofs.Common.{ap}
use Rattle.do_streams.{specs.declared.end.End.End, proofs.Placed.is_at}

-- what stands at the place is the end
pub returns : goal.returns
returns c = λ e there.
    ap (λ (d : End). d.greeted) (is_at c.args.ends.now c.as_slice.result.now c.args.at e
    c.index-as_slice-at.result c.as_slice.ensures there)
