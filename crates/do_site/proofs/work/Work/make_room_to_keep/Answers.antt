use Rattle.do_site.proofs.work.Work.make_room_to_keep.Goals as goal
use Rattle.std.proofs.Common.{arith, subst, sym}
use Rattle.do_effects.specs.Room.{HasRoom}
use Rattle.do_site.specs.{Room.{needed, to_keep}, declared.needs.Needs.Needs}
use Rattle.do_site.proofs.{PlacesKept.{kept_place, made_to_leave}, PlansKeep.on_ok}

-- there is room for none
pub returns-then-is_told-clause-room : goal.returns-then-is_told-clause-room
returns-then-is_told-clause-room c =
    subst (λ names. HasRoom (to_keep names) c.args.self.now.core) (sym c.if-names-eq0.true)
    (record {
      part = record {
        objects = omega arith;
        invocations = omega arith;
        names = omega arith;
        entries = omega arith;
      };
      waiting = omega arith;
    })

-- where no line waits there is room to leave
pub returns-then-is_told-clause-place : goal.returns-then-is_told-clause-place
returns-then-is_told-clause-place c =
    let now = c.args.self.now in
    kept_place now.core now.told c.requires (c.is_told.ensures.room c.if-is_told.true)

-- else it is made
pub returns-clause-room : goal.returns-clause-room
returns-clause-room c =
    let new = c.make_room.new.self in
    on_ok c.make_room.result (λ place.
    subst (λ (n : Needs). HasRoom (needed n) new.core) c.to_keep.ensures place.room)
    c.make_room.ensures.room

-- and there is room to leave
pub returns-clause-place : goal.returns-clause-place
returns-clause-place c =
    let new = c.make_room.new.self in
    on_ok c.make_room.result (λ place. made_to_leave c.to_keep.result new.core new.told place
    (c.make_room.ensures.places c.requires)) c.make_room.ensures.room
