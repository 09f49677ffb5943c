use Rattle.do_part.proofs.part.Part.gone.Goals as goal
use Rattle.std.proofs.Common.{◌∙◌, ap, arith, refl, sym}
use Rattle.do_machine.specs.lend.Asking.{wanted, without_wanted}
use Rattle.do_part.{specs.{Seen.own_of, Rooting.held_of}, proofs.LinkEnds.{gone_over, gone_rows}}
use Rattle.do_part.proofs.{LinkEnds.sound_over, Linking.{classes_linked, links_fewer_asks}}
use Rattle.do_part.proofs.{Linking.own_linked, LinkRows.{asked_less, asked_list, lent_list}}

-- the part is sound without the ask
pub invariant_of-self : goal.invariant_of-self
invariant_of-self c =
    let i = c.self.inside in
    let n = i.holders.imports in
    let m = c.gone.new.self in
    let over = gone_over n m c.counts_are_tied.ensures.tied c.args.oid c.args.token c.gone.result
    c.gone.ensures.which c.gone.ensures.same in
    let rows = gone_rows n m c.counts_are_tied.ensures.tied c.args.oid c.args.token c.gone.result
    c.gone.ensures.which c.gone.ensures.same in
    sound_over i m c.self.invariant over c.counts_are_tied-2.ensures.used
    (links_fewer_asks i m i.holders.names c.self.invariant.links c.args.oid c.args.token
    rows.2 rows.0)

-- the ask is over, and the class is kept only where it is known otherwise
pub returns : goal.returns
returns c =
    let i = c.self.inside in
    let n = i.holders.imports in
    let m = c.gone.new.self in
    let spare = c.gone.ensures.spare in
    let links = c.gone.ensures.links in
    let over = gone_over n m c.counts_are_tied.ensures.tied c.args.oid c.args.token c.gone.result
    c.gone.ensures.which c.gone.ensures.same in
    let rows = gone_rows n m c.counts_are_tied.ensures.tied c.args.oid c.args.token c.gone.result
    c.gone.ensures.which c.gone.ensures.same in
    let asked = ap asked_list rows.0 ∙ asked_less n.asks c.args.oid c.args.token in
    let held = ap held_of rows.2 in
    rw (← c.self.view_is) (record {
      own = own_linked i m i.holders.names _ _ _ _ _ _ over.next (ap lent_list rows.1) asked held
          rows.2
          (classes_linked n m (without_wanted
          (wanted c.args.oid c.args.token.lender c.args.token.number) (own_of i).node)
          c.counts_are_tied-2.ensures.tied over.among (sym held) (sym asked));
      objects = refl;
      invocations = refl;
      names = omega (arith, spare);
      entries = omega (arith, links);
    })
