use Rattle.do_site.proofs.work.releasing.give_back.Goals as goal
use Rattle.std.proofs.Common.{ap, sym, ◌∙◌}
use Rattle.do_export.specs.Counts.{Counts}
use Rattle.do_network.specs.Counting.{given_back}
use Rattle.do_site.proofs.ReleasedCounts.{none_lowered}

-- nothing is given back
pub returns-then-amount-eq0 : goal.returns-then-amount-eq0
returns-then-amount-eq0 c =
    let p = c.args.part.now.own in
    sym (ap (λ k. given_back c.args.from c.args.serial k p) c.if-amount-eq0.true
    ∙ ap (λ (m : Counts). record p { counts = m }) (none_lowered p.counts c.args.from
    c.args.serial (c.has_entry-entered.ensures.counts c.args.from c.args.serial)))
