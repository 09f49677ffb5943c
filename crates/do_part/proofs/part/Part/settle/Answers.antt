use Rattle.do_part.proofs.part.Part.settle.Goals as goal
use Rattle.std.proofs.Common.{◌∙◌, ap, arith, refl, sym}
use Rattle.do_part.{specs.Rooting.held_of, proofs.LinkEnds.{settled_over, settled_rows, sound_over}}
use Rattle.do_part.proofs.Linking.{links_unmoved, own_linked}
use Rattle.do_part.proofs.LinkRows.{asked_list, lent_less, lent_list}

-- the part is sound without the lend
pub invariant_of-self : goal.invariant_of-self
invariant_of-self c =
    let i = c.self.inside in
    let n = i.holders.imports in
    let m = c.settle.new.self in
    let over = settled_over n m c.counts_are_tied.ensures.tied i.holders.node c.args.borrower
    c.args.number c.settle.result (sym c.self.invariant.balanced.lender) c.settle.ensures.which
    c.settle.ensures.same in
    let rows = settled_rows n m c.counts_are_tied.ensures.tied i.holders.node c.args.borrower
    c.args.number c.settle.result (sym c.self.invariant.balanced.lender) c.settle.ensures.which
    c.settle.ensures.same in
    sound_over i m c.self.invariant over c.counts_are_tied-2.ensures.used
    (links_unmoved i m i.holders.names c.self.invariant.links (omega arith) rows.2 rows.1)

-- the lend is over, if it was to that borrower
pub returns : goal.returns
returns c =
    let i = c.self.inside in
    let n = i.holders.imports in
    let m = c.settle.new.self in
    let spare = c.settle.ensures.spare in
    let links = c.settle.ensures.links in
    let over = settled_over n m c.counts_are_tied.ensures.tied i.holders.node c.args.borrower
    c.args.number c.settle.result (sym c.self.invariant.balanced.lender) c.settle.ensures.which
    c.settle.ensures.same in
    let rows = settled_rows n m c.counts_are_tied.ensures.tied i.holders.node c.args.borrower
    c.args.number c.settle.result (sym c.self.invariant.balanced.lender) c.settle.ensures.which
    c.settle.ensures.same in
    rw (← c.self.view_is) (record {
      own = own_linked i m i.holders.names _ _ _ _ _ _ over.next
          (ap lent_list rows.0 ∙ lent_less n.lends c.args.borrower c.args.number)
          (ap asked_list rows.1) (ap held_of rows.2) rows.2 rows.3;
      objects = refl;
      invocations = refl;
      names = omega (arith, spare);
      entries = omega (arith, links);
    })
