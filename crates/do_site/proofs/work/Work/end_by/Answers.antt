use Rattle.do_site.proofs.work.Work.end_by.Goals as goal
use Rattle.std.{proofs.Common.{◌≡◌, ◌∙◌, ap, false, subst, sym, true, inr}, specs.Prelude.IfSome}
use Rattle.do_base.specs.declared.events.shown.Shown.TheVariants.{Took}
use Rattle.do_machine.specs.{State.is_open, take.Lines.item_line}
use Rattle.do_network.specs.Own.{Own, site_context}
use Rattle.do_rules.specs.Ruling.{ruling}
use Rattle.do_streams.specs.Reading.{AreKnown, IsReadBy, names_of}
use Rattle.do_effects.specs.{Doing.{Doing, moved}, Tidy.IsTidy}
use Rattle.do_site.{specs.Steps.{item_move, with_reading}, proofs.ActsDone.{on_err, same_kept}}
use Rattle.do_site.proofs.EndingRulings.{ending_can, ending_copies, ending_room, ending_quiet}
use Rattle.do_site.proofs.{EndingRulings.ending_values, PlansKeep.on_ok}

pub follow-requires-clause-judged : goal.follow-requires-clause-judged
follow-requires-clause-judged c =
    let own = sym (ap (λ (d : Doing). d.own) c.in_ok-make_room_to_close.ensures.same) in
    c.requires.judged
    ∙ ap (λ (p : Own). ruling (site_context c.args.table.now p) c.args.from c.args.item.now) own

pub follow-requires-clause-line : goal.follow-requires-clause-line
follow-requires-clause-line c =
    let own = sym (ap (λ (d : Doing). d.own) c.in_ok-make_room_to_close.ensures.same) in
    ap Took (c.requires.line
    ∙ ap (λ (p : Own). item_line c.args.from p.node.port c.args.item.now) own)

-- any node can follow such a ruling
pub follow-requires-clause-can : goal.follow-requires-clause-can
follow-requires-clause-can c =
    let own = sym (ap (λ (d : Doing). d.own) c.in_ok-make_room_to_close.ensures.same) in
    let mid = c.make_room_to_close.new.self in
    let r = c.args.ruling in
    record {
      tidy = subst IsTidy own c.requires.kept.tidy;
      open_end = subst (λ (p : Own). is_open p.node c.args.from ≡ true) own c.requires.open;
      apart = subst (λ (p : Own). is_open p.node p.node.port ≡ false) own c.requires.kept.apart;
      judged = (
        site_context c.args.table.now c.args.self.now.core.part.own,
        c.requires.judged,
      );
      copies = ending_copies r c.requires.over mid.core.part.own.node;
      values = ending_values r c.requires.over mid.core.part.own.node;
      can = ending_can mid.core.part.own.node c.args.from c.args.item.now r c.requires.over;
      room = ending_room c.args.item.now r c.requires.over mid.core mid.told
          c.in_ok-make_room_to_close.ensures.room;
    }

-- in the place that there is for a close
pub follow-requires-clause-place : goal.follow-requires-clause-place
follow-requires-clause-place c =
    inr (c.requires.over, c.in_ok-make_room_to_close.ensures.room)

-- making room leaves what a site keeps true
pub follow-requires-clause-kept : goal.follow-requires-clause-kept
follow-requires-clause-kept c =
    same_kept c.args.table.now c.args.self.now c.make_room_to_close.new.self
    c.in_ok-make_room_to_close.ensures.same c.in_ok-make_room_to_close.ensures.stays
    c.requires.kept

pub follow-requires-clause-known : goal.follow-requires-clause-known
follow-requires-clause-known c =
    subst (λ k. IfSome c.args.names (λ ns. AreKnown k ns))
    (sym c.in_ok-make_room_to_close.ensures.stays.classes) c.requires.known

-- the item is taken as before room was made
pub returns-clause-ok : goal.returns-clause-ok
returns-clause-ok c =
    let same = c.in_ok-make_room_to_close.ensures.same in
    on_ok c.follow.result (λ done f read.
    done f (subst (λ (d : Doing). IsReadBy (names_of d.out.links c.args.from) f c.args.names)
    (sym same) read)
    ∙ ap (λ (d : Doing). moved (with_reading c.args.from f d)
    (item_move c.args.table.now c.args.from c.args.item.now d.own)) same) c.follow.ensures.ok

pub returns-clause-err : goal.returns-clause-err
returns-clause-err c =
    on_err c.follow.result (λ same. same ∙ c.in_ok-make_room_to_close.ensures.same)
    c.follow.ensures.err

-- and that takes no memory
pub returns-clause-sure : goal.returns-clause-sure
returns-clause-sure c = λ fetched.
    c.follow.ensures.sure (ending_quiet c.args.ruling c.requires.over)

pub returns-in_err-make_room_to_close-clause-kept :
    goal.returns-in_err-make_room_to_close-clause-kept
returns-in_err-make_room_to_close-clause-kept c =
    same_kept c.args.table.now c.args.self.now c.make_room_to_close.new.self
    c.in_err-make_room_to_close.ensures.same c.in_err-make_room_to_close.ensures.stays
    c.requires.kept
