use Rattle.do_part.proofs.part.Part.lend.Goals as goal
use Rattle.std.{proofs.Common.{◌∙◌, ◌+◌, ◌-◌, ◌^◌, ap, arith, refl, subst, sym}, specs.Prelude.min}
use Rattle.do_base.specs.names.Names.{TokenName}
use Rattle.do_import.specs.Imported.{Imported}
use Rattle.do_part.specs.{Seen.own_of, Sound.IsSound, declared.holders.Holders.Holders}
use Rattle.do_part.{specs.Rooting.held_of, proofs.Linking.{links_unmoved, own_linked}}
use Rattle.do_part.proofs.{LinkRows.{asked_list, lent_list, lent_more}, LinkSteps.sound_more}
use Rattle.do_part.proofs.Turning.{room_below}

-- the part is sound with the lend and one name more
pub invariant_of-self : goal.invariant_of-self
invariant_of-self c =
    let i = c.self.inside in
    let m = c.lend-token.new.self in
    let e = c.lend-token.ensures.same in
    let room = room_below i c.self.invariant _ c.self.view_is 1
    (let r = c.requires.room in omega (arith, r)) in
    subst (λ (h : Holders). IsSound (record i { holders = h })) (sym c.count_name.ensures)
    (sound_more i c.self.invariant m (ap (λ (x : Imported). x.own) e)
    c.counts_are_tied-2.ensures.used c.args.oid (ap (λ (x : Imported). x.uses) e)
    (ap (λ (x : Imported). x.named) e) room.1
    (links_unmoved i m (i.holders.names + 1) c.self.invariant.links (omega arith)
    (ap (λ (x : Imported). x.received) e) (ap (λ (x : Imported). x.asks) e)))

-- the node has lent the object under the next token
pub returns : goal.returns
returns c =
    let i = c.self.inside in
    let m = c.lend-token.new.self in
    let e = c.lend-token.ensures.same in
    let spare = c.lend-token.ensures.spare in
    let now = c.count_name.ensures in
    let names = ap (λ (h : Holders). h.names) now in
    let room = ap (λ (h : Holders). h.imports.spare) now in
    let links = c.lend-token.ensures.links in
    let over = ap (λ (h : Holders). h.imports.links) now in
    rw (← c.self.view_is) (record {
      number = ap (λ (t : TokenName). t.number) (c.token.view_is ∙ c.lend-token.ensures.token);
      own = ap (λ (h : Holders). own_of (record i { holders = h })) now
          ∙ own_linked i m (i.holders.names + 1) _ _ _ _ _ _
          (ap (λ (x : Imported). x.next) e)
          (ap (λ (x : Imported). lent_list x.lends) e
          ∙ lent_more i.holders.imports.lends i.holders.imports.next c.args.borrower c.args.oid
          c.counts_are_tied.ensures.tied.numbers)
          (ap (λ (x : Imported). asked_list x.asks) e)
          (ap (λ (x : Imported). held_of x.received) e)
          (ap (λ (x : Imported). x.received) e) (ap (λ (x : Imported). x.classes) e);
      objects = ap (λ (h : Holders). min h.store.spare (2 ^ 63 - h.store.next)) now;
      invocations = refl;
      names = omega (arith, spare, names, room);
      entries = omega (arith, links, over);
    })
