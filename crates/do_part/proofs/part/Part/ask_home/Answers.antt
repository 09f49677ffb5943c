use Rattle.do_part.proofs.part.Part.ask_home.Goals as goal
use Rattle.std.proofs.Common.{◌∙◌, ◌<◌, ◌+◌, ◌-◌, ◌^◌, ap, arith, refl, subst, sym}
use Rattle.std.specs.Prelude.{min, not}
use Rattle.do_base.specs.names.Names.{TokenName}
use Rattle.do_part.specs.{Seen.own_of, Sound.IsSound, declared.holders.Holders.Holders}
use Rattle.do_part.proofs.{LinkAsks.{own_asked, sound_asked}, LinkRows.asked_has}
use Rattle.do_part.proofs.Turning.{room_below}

-- the part is sound with the ask and one name more
pub invariant_of-self : goal.invariant_of-self
invariant_of-self c =
    let i = c.self.inside in
    let m = c.ask-asked.new.self in
    let room = room_below i c.self.invariant _ c.self.view_is 1
    (let r = c.requires.room in omega (arith, r)) in
    subst (λ (h : Holders). IsSound (record i { holders = h })) (sym c.count_name.ensures)
    (sound_asked i m c.self.invariant c.args.oid c.args.token c.args.class c.ask-asked.result
    c.ask-asked.ensures.same
    (λ h. c.requires.foreign (h ∙ ap (λ v. v.own.node.port) c.self.view_is))
    (subst (λ n. 0 < n) (c.port-lender.ensures.value
    ∙ ap (λ (t : TokenName). t.lender) c.token.view_is) c.port-lender.ensures.above)
    c.counts_are_tied-2.ensures.used room.1)

-- the node has asked for the object, and its class is known
pub returns : goal.returns
returns c =
    let i = c.self.inside in
    let n = i.holders.imports in
    let m = c.ask-asked.new.self in
    let spare = c.ask-asked.ensures.spare in
    let now = c.count_name.ensures in
    let names = ap (λ (h : Holders). h.names) now in
    let room = ap (λ (h : Holders). h.imports.spare) now in
    let links = c.ask-asked.ensures.links in
    let over = ap (λ (h : Holders). h.imports.links) now in
    rw (← c.self.view_is) (record {
      which = c.ask-asked.ensures.which ∙ ap not (sym (asked_has n.asks c.args.oid c.args.token));
      own = ap (λ (h : Holders). own_of (record i { holders = h })) now
          ∙ own_asked i m (i.holders.names + 1) c.args.oid c.args.token c.args.class
          c.ask-asked.result c.ask-asked.ensures.which c.ask-asked.ensures.same;
      objects = ap (λ (h : Holders). min h.store.spare (2 ^ 63 - h.store.next)) now;
      invocations = refl;
      names = omega (arith, spare, names, room);
      entries = omega (arith, links, over);
    })

-- the object is not counted as asked for too often
pub ask-asked-requires-clause-asked : goal.ask-asked-requires-clause-asked
ask-asked-requires-clause-asked c =
    let a = c.counts_are_tied.ensures.tied.counts.counted (c.args.oid.node, c.args.oid.serial) in
    let b = c.counts_are_tied.ensures.tied.names.counted (c.args.oid.node, c.args.oid.serial) in
    let f = c.self.invariant.few c.args.oid in
    let m = c.self.invariant.most in
    omega (arith, a, b, f, m)
