use Rattle.do_site.proofs.ruling.of_reply.Goals as goal
use Rattle.std.{proofs.Common.{◌≡◌, ◌∙◌, true, ap, sym, arith}, specs.List.list_all}
use Rattle.do_rules.specs.Ruling.{names_in}
use Rattle.do_site.specs.{Plans.is_no_lend, declared.needs.Needs.Needs}
use Rattle.do_site.proofs.RulingsAllowed.{lends_nothing}

pub returns : goal.returns
returns c =
    let counted = c.in_ok-names_counted.ensures.1 in
    let sent = ap (λ (x : Needs). x.names) c.to_send.ensures in
    let entries = ap (λ (x : Needs). x.entries) c.to_send.ensures in
    let waiting = ap (λ (x : Needs). x.waiting) c.to_send.ensures in
    let none : list_all is_no_lend (names_in c.args.item.now) ≡ true =
    ap (list_all is_no_lend) (sym c.names_in.ensures) ∙ sym c.lends_nothing.ensures
    ∙ c.if-not-lends_nothing.false in (
      c.in_ok-names_counted.ensures.0,
      (
        lends_nothing c.args.from c.args.item.now none,
        record {
          objects = omega arith;
          invocations = omega arith;
          names = omega (arith, counted, sent);
          entries = omega (arith, counted, entries);
          waiting = omega (arith, waiting);
        },
      ),
    )
