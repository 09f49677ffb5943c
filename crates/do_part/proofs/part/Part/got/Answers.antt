use Rattle.std.specs.FinMap as map
use Rattle.do_part.proofs.part.Part.got.Goals as goal
use Rattle.std.{proofs.Common.{◌∙◌, ◌+◌, ◌-◌, ◌^◌, ap, arith, refl, subst, sym}, specs.Prelude.min}
use Rattle.do_export.specs.Counts.{count_of, IsPositive}
use Rattle.do_import.specs.Imported.{Imported}
use Rattle.do_part.specs.{Seen.own_of, Sound.IsSound, declared.holders.Holders.Holders}
use Rattle.do_part.specs.Rooting.{held_of}
use Rattle.do_part.proofs.{HeldRows.held_more, Linking.own_linked, LinkRows.{asked_list, lent_list}}
use Rattle.do_part.proofs.{LinkSteps.{got_linked, sound_got}, Turning.room_below}

-- the part is sound with the object received once more
pub invariant_of-self : goal.invariant_of-self
invariant_of-self c =
    let i = c.self.inside in
    let m = c.got.new.self in
    let e = c.got.ensures.same in
    let room = room_below i c.self.invariant _ c.self.view_is 1
    (let r = c.requires.room in omega (arith, r)) in
    subst (λ (h : Holders). IsSound (record i { holders = h })) (sym c.count_name.ensures)
    (sound_got i c.self.invariant m (ap (λ (x : Imported). x.own) e)
    (subst IsPositive (sym (ap (λ (x : Imported). x.uses) e)) c.self.invariant.balanced.positive)
    (ap (λ (x : Imported). x.uses) e) (ap (λ (x : Imported). x.named) e) room.1
    (got_linked i m c.self.invariant.links c.args.oid
    (λ h. c.requires.foreign (h ∙ ap (λ v. v.own.node.port) c.self.view_is))
    (ap (λ (x : Imported). x.received) e)
    (λ k there. c.self.invariant.links.asked k
    (ap (λ (x : Imported). map.contains_key x.asks k) (sym e) ∙ there))))

-- the node holds the object, and its class is known
pub returns : goal.returns
returns c =
    let i = c.self.inside in
    let m = c.got.new.self in
    let e = c.got.ensures.same in
    let spare = ap (λ (x : Imported). x.spare) e in
    let now = c.count_name.ensures in
    let names = ap (λ (h : Holders). h.names) now in
    let room = ap (λ (h : Holders). h.imports.spare) now in
    let links = c.got.ensures.links in
    let over = ap (λ (h : Holders). h.imports.links) now in
    rw (← c.self.view_is) (record {
      own = ap (λ (h : Holders). own_of (record i { holders = h })) now
          ∙ own_linked i m (i.holders.names + 1) _ _ _ _ _ _
          (ap (λ (x : Imported). x.next) e)
          (ap (λ (x : Imported). lent_list x.lends) e)
          (ap (λ (x : Imported). asked_list x.asks) e)
          (ap (λ (x : Imported). held_of x.received) e
          ∙ held_more i.holders.imports.received c.args.oid
          (count_of i.holders.imports.received c.args.oid.node c.args.oid.serial + 1))
          (ap (λ (x : Imported). x.received) e) (ap (λ (x : Imported). x.classes) e);
      objects = ap (λ (h : Holders). min h.store.spare (2 ^ 63 - h.store.next)) now;
      invocations = refl;
      names = omega (arith, spare, names, room);
      entries = omega (arith, links, over);
    })

-- the object was not received too often
pub got-requires-clause-small : goal.got-requires-clause-small
got-requires-clause-small c =
    let a = c.self.invariant.links.got (c.args.oid.node, c.args.oid.serial) in
    let m = c.self.invariant.most in
    omega (arith, a, m)
