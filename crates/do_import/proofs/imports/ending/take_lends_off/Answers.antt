use Rattle.std.specs.FinMap as map
use Rattle.do_import.proofs.imports.ending.take_lends_off.Goals as goal
use Rattle.std.{proofs.Common.{arith, ◌+◌, drop, sym, ap, ◌∙◌}, specs.Option.option_copied}
use Rattle.std.proofs.lemmas.{List.drop_all, Bool.{eq-eqb, ne_eqb}}
use Rattle.do_import.specs.Imported.{all_off, lent_to}
use Rattle.do_import.proofs.{NextRow.no_row, LendsOff.{next_lent, next_other}}
use Rattle.do_import.proofs.imports.ending.take_lends_off.Goals.{then-row-borrower}
use Rattle.do_import.proofs.imports.ending.take_lends_off.Goals.{else-row-borrower}

-- below the number of lends there is a row
pub unreachable-requires : goal.unreachable-requires
unreachable-requires c =
    let ended = no_row (map.entries c.args.lends.now.lends) c.loop-at.at
    (sym c.row.ensures ∙ ap option_copied c.in_default.is) in
    absurd (omega (arith, ended, c.loop-at-test.true, c.len-at-end.ensures))

-- a lend to the borrower takes off what is to be taken off for it, any other nothing
pub loop-at-preserved : goal.loop-at-preserved
loop-at-preserved c =
    let so = c.loop-at.invariant in
    let lends = map.entries c.args.lends.now.lends in
    let at = sym c.row.ensures ∙ ap option_copied c.in-Some.is in
    elim c.if-row-borrower.branch [
      | then-row-borrower w ↦
          let is = eq-eqb c.in-Some.row.now.0.0 c.args.borrower w.if-row-borrower.true in
          rw (w.holdings-is, w.named-is) (
            w.take_off.ensures.received ∙ so.0,
            ap (λ n. all_off n (lent_to c.args.borrower (drop (c.loop-at.at + 1) lends)))
                w.take_off.ensures.uses
                ∙ next_lent _ c.args.borrower lends c.loop-at.at c.in-Some.row.now at is ∙ so.1,
            omega (arith, so.2, w.take_off.ensures.spare),
            ap (λ n. all_off n (lent_to c.args.borrower (drop (c.loop-at.at + 1) lends)))
                w.take_off-then-row-borrower.ensures.rows
                ∙ next_lent _ c.args.borrower lends c.loop-at.at c.in-Some.row.now at is ∙ so.3,
            omega (arith, so.4, w.take_off-then-row-borrower.ensures.spare),
            w.take_off.ensures.places ∙ so.5,
          )
      | else-row-borrower w ↦
          let is = ne_eqb c.in-Some.row.now.0.0 c.args.borrower w.if-row-borrower.false in
          rw (w.holdings-is, w.named-is) (
            so.0,
            next_other _ c.args.borrower lends c.loop-at.at c.in-Some.row.now at is ∙ so.1,
            so.2,
            next_other _ c.args.borrower lends c.loop-at.at c.in-Some.row.now at is ∙ so.3,
            so.4,
            so.5,
          )
    ]

-- once no lend is left, all uses that were to be taken off are
pub returns-clause-uses : goal.returns-clause-uses
returns-clause-uses c =
    let lends = map.entries c.args.lends.now.lends in
    let none = drop_all c.loop-at.at lends
    (omega (arith, c.loop-at-test.false, c.len-at-end.ensures)) in
    ap (λ l. all_off c.loop-at.holdings.uses (lent_to c.args.borrower l)) (sym none)
    ∙ c.loop-at.invariant.1

-- once no lend is left, all names that were to be taken off are
pub returns-clause-named : goal.returns-clause-named
returns-clause-named c =
    let lends = map.entries c.args.lends.now.lends in
    let none = drop_all c.loop-at.at lends
    (omega (arith, c.loop-at-test.false, c.len-at-end.ensures)) in
    ap (λ l. all_off c.loop-at.named.rows (lent_to c.args.borrower l)) (sym none)
    ∙ c.loop-at.invariant.3

-- and no place was taken
pub returns-clause-places : goal.returns-clause-places
returns-clause-places c = c.loop-at.invariant.5
