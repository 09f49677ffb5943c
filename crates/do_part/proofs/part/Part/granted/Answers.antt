use Rattle.do_part.proofs.part.Part.granted.Goals as goal
use Rattle.std.proofs.Common.{◌≡◌, ◌∙◌, ◌+◌, ◌-◌, ◌^◌, ap, arith, refl, subst, sym, true}
use Rattle.std.specs.{Prelude.min, List.list_any}
use Rattle.do_export.specs.Counts.{count_of}
use Rattle.do_machine.specs.lend.Asking.{same_wanted, wanted}
use Rattle.do_part.specs.{Owned.Owned, Seen.own_of, Sound.IsSound, declared.holders.Holders.Holders}
use Rattle.do_part.{specs.Rooting.held_of, proofs.HeldRows.held_more}
use Rattle.do_part.proofs.{LinkAsks.{ask_there, granted_is, sound_granted}, Linking.own_linked}
use Rattle.do_part.proofs.{LinkRows.{asked_less, asked_list, lent_list}, Turning.room_below}

-- the part is sound without the ask, and with the object received
pub invariant_of-self : goal.invariant_of-self
invariant_of-self c =
    let i = c.self.inside in
    let n = i.holders.imports in
    let m = c.granted.new.self in
    let there = ask_there n.asks c.args.oid c.args.token
    (subst (λ (v : Owned). list_any (same_wanted
    (wanted c.args.oid c.args.token.lender c.args.token.number)) v.own.node.asked ≡ true)
    (sym c.self.view_is) c.requires.asked) in
    let is = granted_is n m c.counts_are_tied.ensures.tied c.args.oid c.args.token there
    c.granted.ensures.same in
    let room = room_below i c.self.invariant _ c.self.view_is 1
    (let r = c.requires.room in omega (arith, r)) in
    subst (λ (h : Holders). IsSound (record i { holders = h })) (sym c.count_name.ensures)
    (sound_granted i m c.self.invariant c.args.oid c.args.token there is
    c.counts_are_tied.ensures.tied.names c.counts_are_tied-2.ensures.used room.1)

-- the ask is over, and the node holds the object
pub returns : goal.returns
returns c =
    let i = c.self.inside in
    let n = i.holders.imports in
    let m = c.granted.new.self in
    let there = ask_there n.asks c.args.oid c.args.token
    (subst (λ (v : Owned). list_any (same_wanted
    (wanted c.args.oid c.args.token.lender c.args.token.number)) v.own.node.asked ≡ true)
    (sym c.self.view_is) c.requires.asked) in
    let is = granted_is n m c.counts_are_tied.ensures.tied c.args.oid c.args.token there
    c.granted.ensures.same in
    let spare = c.granted.ensures.spare in
    let now = c.count_name.ensures in
    let names = ap (λ (h : Holders). h.names) now in
    let room = ap (λ (h : Holders). h.imports.spare) now in
    let links = c.granted.ensures.links in
    let over = ap (λ (h : Holders). h.imports.links) now in
    rw (← c.self.view_is) (record {
      own = ap (λ (h : Holders). own_of (record i { holders = h })) now
          ∙ own_linked i m (i.holders.names + 1) _ _ _ _ _ _ is.next (ap lent_list is.lends)
          (ap asked_list is.asks ∙ asked_less n.asks c.args.oid c.args.token)
          (ap held_of is.received ∙ held_more n.received c.args.oid
          (count_of n.received c.args.oid.node c.args.oid.serial + 1))
          is.received is.classes;
      objects = ap (λ (h : Holders). min h.store.spare (2 ^ 63 - h.store.next)) now;
      invocations = refl;
      names = omega (arith, spare, names, room);
      entries = omega (arith, links, over);
    })

-- the object was not received too often
pub granted-requires-clause-small : goal.granted-requires-clause-small
granted-requires-clause-small c =
    let a = c.self.invariant.links.got (c.args.oid.node, c.args.oid.serial) in
    let m = c.self.invariant.most in
    omega (arith, a, m)
