use Rattle.do_site.proofs.work.Work.end.Goals as goal
use Rattle.std.proofs.Common.{◌≡◌, arith, false, ap, refl, sym, subst, ◌∙◌}
use Rattle.do_machine.specs.{State.is_open, ends.Closing.closing}
use Rattle.do_network.specs.Own.{Own}
use Rattle.do_effects.specs.Doing.{Doing, doing}
use Rattle.do_site.proofs.KeptSteps.{apart_then, closing_apart}
use Rattle.do_site.proofs.PlacesKept.{closed_place, parted_fewer}

-- there is a place to leave what nothing holds then
pub leave-requires-clause-place : goal.leave-requires-clause-place
leave-requires-clause-place c =
    let mid = c.make_room_to_close.new.self in
    let line = c.show.ensures.room in
    let bare = c.show.ensures.bare in
    let pays = c.close.ensures.pays in
    let room = c.close.ensures.room in
    closed_place mid.core c.close.new.self mid.told
    (record mid.told { settled = c.close.new.settled })
    c.in_ok-make_room_to_close.ensures.room
    (parted_fewer c.args.peer mid.core.part.own.node c.close.new.self.part.own.node
    c.close.ensures.node)
    refl refl c.close.ensures.settled_room (omega (arith, pays, bare)) (omega (arith, line, room))

-- what a site keeps true is true then
pub returns-clause-kept : goal.returns-clause-kept
returns-clause-kept c table k =
    let old = c.args.self.now in
    let mid = c.make_room_to_close.new.self in
    let shown = doing (record mid.core { streams = c.show.new.self }) in
    let one = c.close.new.self in
    let new = c.leave.new.self in
    let own : mid.core.part.own ≡ old.core.part.own =
    ap (λ (d : Doing). d.own) c.in_ok-make_room_to_close.ensures.same in
    let e = closing c.args.peer mid.core.part.own.node in
    record {
      tidy = c.leave.ensures.tidy;
      apart = apart_then shown shown (doing one) (doing new.core) e refl
          c.close.ensures.closed c.leave.ensures.moved
          (closing_apart c.args.peer mid.core.part.own.node
          (subst (λ (p : Own). is_open p.node p.node.port ≡ false) (sym own) k.apart));
      classes = c.leave.ensures.stays.classes
          ∙ c.close.ensures.classes ∙ c.show.ensures.classes
          ∙ c.in_ok-make_room_to_close.ensures.stays.classes ∙ k.classes;
    }
