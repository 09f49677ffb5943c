use Rattle.do_site.proofs.work.Work.take_item.Goals as goal
use Rattle.std.{proofs.Common.{◌≡◌, ◌∙◌, ap, false, inl, subst, sym, true}, specs.Prelude.IfSome}
use Rattle.do_base.specs.declared.events.shown.Shown.TheVariants.{Took}
use Rattle.do_machine.specs.{State.is_open, take.Lines.item_line}
use Rattle.do_network.specs.Own.{Own, site_context}
use Rattle.do_rules.specs.Ruling.{ruling}
use Rattle.do_streams.specs.Reading.{AreKnown, IsReadBy, names_of}
use Rattle.do_effects.specs.{Doing.{Doing, moved}, Tidy.IsTidy}
use Rattle.do_site.specs.Steps.{item_move, with_reading}
use Rattle.do_site.proofs.{ActsDone.{on_err, same_kept}, PlansKeep.on_ok}

-- the ruling is that of the rules
pub follow-requires-clause-judged : goal.follow-requires-clause-judged
follow-requires-clause-judged c =
    c.in-Ok.ensures
    ∙ ap (λ (d : Doing). ruling (site_context c.args.table.now d.own) c.args.from c.args.item.now)
    (sym c.in-Ok-make_room_to_take.ensures.same)

pub follow-requires-clause-line : goal.follow-requires-clause-line
follow-requires-clause-line c =
    c.in-Ok-make_room_to_take.ensures.line
    ∙ ap (λ (d : Doing). Took (item_line c.args.from d.own.node.port c.args.item.now))
    (sym c.in-Ok-make_room_to_take.ensures.same)

-- the node can do what the ruling says
pub follow-requires-clause-can : goal.follow-requires-clause-can
follow-requires-clause-can c =
    let own = sym (ap (λ (d : Doing). d.own) c.in-Ok-make_room_to_take.ensures.same) in
    let ready = c.in-Ok-make_room_to_take.ensures.ready in
    record {
      tidy = subst IsTidy own c.requires.kept.tidy;
      open_end = subst (λ (p : Own). is_open p.node c.args.from ≡ true) own c.requires.open;
      apart = subst (λ (p : Own). is_open p.node p.node.port ≡ false) own c.requires.kept.apart;
      judged = (
        site_context c.args.table.now c.args.self.now.core.part.own,
        c.in-Ok.ensures,
      );
      copies = ready.copies;
      values = ready.values;
      can = ready.can;
      room = ready.place.room;
    }

-- in the place that was made
pub follow-requires-clause-place : goal.follow-requires-clause-place
follow-requires-clause-place c = inl c.in-Ok-make_room_to_take.ensures.ready.place

-- making room leaves what a site keeps true
pub follow-requires-clause-kept : goal.follow-requires-clause-kept
follow-requires-clause-kept c =
    same_kept c.args.table.now c.args.self.now c.make_room_to_take.new.self
    c.in-Ok-make_room_to_take.ensures.same c.in-Ok-make_room_to_take.ensures.stays c.requires.kept

pub follow-requires-clause-known : goal.follow-requires-clause-known
follow-requires-clause-known c =
    subst (λ k. IfSome c.args.names (λ ns. AreKnown k ns))
    (sym c.in-Ok-make_room_to_take.ensures.stays.classes) c.requires.known

-- the item is taken as before room was made
pub returns-clause-ok : goal.returns-clause-ok
returns-clause-ok c =
    let same = c.in-Ok-make_room_to_take.ensures.same in
    on_ok c.follow.result (λ done f read.
    done f (subst (λ (d : Doing). IsReadBy (names_of d.out.links c.args.from) f c.args.names)
    (sym same) read)
    ∙ ap (λ (d : Doing). moved (with_reading c.args.from f d)
    (item_move c.args.table.now c.args.from c.args.item.now d.own)) same) c.follow.ensures.ok

pub returns-clause-err : goal.returns-clause-err
returns-clause-err c =
    on_err c.follow.result (λ same. same ∙ c.in-Ok-make_room_to_take.ensures.same)
    c.follow.ensures.err

pub returns-in_default-make_room_to_take-clause-kept :
    goal.returns-in_default-make_room_to_take-clause-kept
returns-in_default-make_room_to_take-clause-kept c =
    same_kept c.args.table.now c.args.self.now c.make_room_to_take.new.self
    c.in_default-make_room_to_take.ensures.same c.in_default-make_room_to_take.ensures.stays
    c.requires.kept
