use Rattle.do_grammar.proofs.decimal.dec_of.Goals as goal
use Rattle.do_grammar.proofs.texts.DecAnswer.{dec_told, dec_found}

pub returns-clause-exact : goal.returns-clause-exact
returns-clause-exact c =
    dec_told c.args.low c.args.high c.args.bytes.now c.whole_dec.result c.ranges.high.fits
    c.whole_dec.ensures.value

pub returns-clause-only : goal.returns-clause-only
returns-clause-only c =
    dec_found c.args.low c.args.high c.args.bytes.now c.whole_dec.result c.ranges.high.fits
    c.whole_dec.ensures.value
