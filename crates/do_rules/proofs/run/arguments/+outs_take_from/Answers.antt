use Rattle.do_rules.proofs.run.arguments.+outs_take_from.Goals as goal
use Rattle.std.proofs.Common.{◌∙◌, arith, sym}
use Rattle.do_rules.proofs.Arguments.{not_false, takes_at}

pub returns : goal.returns
returns t c =
    takes_at c.args.signature.now c.args.k _ c.args.outs.now _ _
    (omega (arith, c.in-len1-up-outs.len_at_least)) c.value-item.is c.qualifier.ensures
    (not_false _ c.if-not-qualifier.false) (sym c.fits.ensures ∙ c.if-not-fits.false)
    c.outs_take_from-2.ensures
