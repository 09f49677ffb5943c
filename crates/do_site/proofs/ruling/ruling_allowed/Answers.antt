use Rattle.do_site.proofs.ruling.ruling_allowed.Goals as goal
use Rattle.std.proofs.Common.{ap, subst, length}
use Rattle.do_site.{specs.Plans.AllowsItem, proofs.RulingsAllowed.with_line}

pub returns : goal.returns
returns c =
    let n = c.args.part.now.own.node in
    with_line n c.args.from c.args.item.now c.args.ruling.now c.in_ok-needs.needs
    c.in_ok-checked_add.field-0
    (subst (λ k. AllowsItem n c.args.from c.args.item.now k c.args.ruling.now c.in_ok-needs.needs)
    (ap length c.names_in.ensures) c.in_ok-needs.ensures) c.in_ok-checked_add.ensures.1
