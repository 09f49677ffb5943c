use Rattle.do_part.proofs.part.Part.end_ask.Goals as goal
use Rattle.std.proofs.Common.{◌∙◌, ap, arith, refl, sym}
use Rattle.do_import.specs.Imported.{Imported}
use Rattle.do_machine.specs.lend.Asking.{wanted, without_wanted}
use Rattle.do_part.{specs.{Seen.own_of, Rooting.held_of}, proofs.LinkEnds.{ask_over, sound_over}}
use Rattle.do_part.proofs.Linking.{classes_linked, links_fewer_asks, own_linked}
use Rattle.do_part.proofs.LinkRows.{asked_less, asked_list, lent_list}
use Rattle.do_part.proofs.PartingRows.{first_is, none_of_home}

-- where no ask of the peer is left, nothing changes
pub returns-in_default : goal.returns-in_default
returns-in_default c =
    let i = c.self.inside in
    let e = c.in_default.ensures.which.1 in
    rw (← c.self.view_is) (record {
      which = (
        none_of_home i.holders.imports.asks (λ k there. (c.self.invariant.links.asked k there).1)
            c.args.peer c.in_default.ensures.which.0,
        ap (λ (m : Imported). own_of (record i { holders = record i.holders { imports = m } })) e,
      );
      objects = refl;
      invocations = refl;
      names = omega (arith, ap (λ (m : Imported). m.spare) e);
      entries = omega (arith, ap (λ (m : Imported). m.links) e);
    })

-- the part is sound without the ask
pub invariant_of-self-2 : goal.invariant_of-self-2
invariant_of-self-2 c =
    let i = c.self.inside in
    let n = i.holders.imports in
    let m = c.ended_ask.new.self in
    let which = c.in-Some.ensures.which in
    let o = c.in-Some.ask.0 in
    let t = c.in-Some.ask.1 in
    let e = which.2 in
    sound_over i m c.self.invariant
    (ask_over n m c.counts_are_tied.ensures.tied o t which.1.there e)
    c.counts_are_tied-2.ensures.used
    (links_fewer_asks i m i.holders.names c.self.invariant.links o t
    (ap (λ (x : Imported). x.received) e) (ap (λ (x : Imported). x.asks) e))

-- the ask that is over is the first of that home
pub returns : goal.returns
returns c =
    let i = c.self.inside in
    let n = i.holders.imports in
    let m = c.ended_ask.new.self in
    let which = c.in-Some.ensures.which in
    let o = c.in-Some.ask.0 in
    let t = c.in-Some.ask.1 in
    let e = which.2 in
    let spare = c.in-Some.ensures.spare in
    let links = c.in-Some.ensures.links in
    let over = ask_over n m c.counts_are_tied.ensures.tied o t which.1.there e in
    let asked = ap (λ (x : Imported). asked_list x.asks) e ∙ asked_less n.asks o t in
    let held = ap (λ (x : Imported). held_of x.received) e in
    rw (← c.self.view_is) (record {
      which = (
        wanted o t.lender t.number,
        refl,
        first_is n.asks (λ k there. (c.self.invariant.links.asked k there).1) c.args.peer o t
            which.0 which.1 m.asks (ap (λ (x : Imported). x.asks) e),
        own_linked i m i.holders.names _ _ _ _ _ _ over.next
            (ap (λ (x : Imported). lent_list x.lends) e) asked held
            (ap (λ (x : Imported). x.received) e)
            (classes_linked n m (without_wanted (wanted o t.lender t.number) (own_of i).node)
            c.counts_are_tied-2.ensures.tied over.among (sym held) (sym asked)),
      );
      objects = refl;
      invocations = refl;
      names = omega (arith, spare);
      entries = omega (arith, links);
    })
