use Rattle.do_grammar.proofs.number.push_num.Goals as goal
use Rattle.do_grammar.proofs.texts.SizeExact.{size_sized}

pub push_digits-requires-clause-fits : goal.push_digits-requires-clause-fits
push_digits-requires-clause-fits c =
    let s = size_sized c.args.x c.ranges.x.fits in
    rw c.bytes_needed-n.ensures.value s.below
