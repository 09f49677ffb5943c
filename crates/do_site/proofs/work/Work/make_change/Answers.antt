use Rattle.do_site.proofs.work.Work.make_change.Goals as goal
use Rattle.std.proofs.Common.{◌≡◌, ◌∙◌, ◌<◌, ap, arith, length, subst, sym}
use Rattle.std.specs.Prelude.{slice_get, Some}
use Rattle.do_behave.specs.{Changes.IsFitting, declared.invocation.Invocation.Invocation}
use Rattle.do_network.specs.Own.{Own}
use Rattle.do_part.specs.Changed.{act_left_on, change_writes, changed, written_values}
use Rattle.do_part.specs.Names.{AreStored, values_of}
use Rattle.do_stack.specs.Exchange.{given}
use Rattle.do_effects.specs.{Doing.{Doing, doing}, declared.changing.Core.Core}
use Rattle.do_site.proofs.{ActsDone.on_err, ActsKeep.change_keeps}
use Rattle.do_site.proofs.{PlacesKept.{either_way, places_fewer, places_same}, PlansKeep.on_ok}
use Rattle.do_site.proofs.Stored.{there_stored}

-- there is a top invocation
pub step-requires-clause-top : goal.step-requires-clause-top
step-requires-clause-top c =
    subst (λ (p : Own). 0 < length p.node.stack)
    (sym (ap (λ (d : Doing). d.own) c.in_ok-make_room_to_keep.ensures.same)) c.requires.top

-- the change fits it
pub step-requires-clause-fits : goal.step-requires-clause-fits
step-requires-clause-fits c =
    subst (λ (p : Own). (top : Invocation) → slice_get p.node.stack 0 ≡ Some top →
    IsFitting top c.args.change)
    (sym (ap (λ (d : Doing). d.own) c.in_ok-make_room_to_keep.ensures.same)) c.requires.fits

-- it is a step
pub step-requires-clause-step : goal.step-requires-clause-step
step-requires-clause-step c =
    ap (λ (d : Doing). act_left_on c.args.change d.own.node.stack)
    c.in_ok-make_room_to_keep.ensures.same ∙ c.requires.step

-- there is room for the names that are given and written
pub step-requires-clause-names : goal.step-requires-clause-names
step-requires-clause-names c =
    let room = c.in_ok-make_room_to_keep.ensures.room.part.names in
    let count = c.in-Some.ensures.counted in
    omega (arith, room, count)

-- what is given is stored
pub step-requires-clause-locals : goal.step-requires-clause-locals
step-requires-clause-locals c =
    subst (λ (p : Own). AreStored p.node (values_of (given c.args.change)))
    (sym (ap (λ (d : Doing). d.own) c.in_ok-make_room_to_keep.ensures.same))
    (there_stored c.args.self.now.core.part.own.node (values_of (given c.args.change))
    c.in-Some.ensures.first)

-- what is written is stored
pub step-requires-clause-stored : goal.step-requires-clause-stored
step-requires-clause-stored c =
    subst (λ (p : Own). AreStored p.node
    (values_of (written_values (change_writes c.args.change))))
    (sym (ap (λ (d : Doing). d.own) c.in_ok-make_room_to_keep.ensures.same))
    (there_stored c.args.self.now.core.part.own.node
    (values_of (written_values (change_writes c.args.change))) c.in-Some.ensures.second)

-- the node is changed, and nothing else
pub returns-clause-own : goal.returns-clause-own
returns-clause-own c =
    let same : doing c.make_room_to_keep.new.self.core ≡ doing c.args.self.now.core
    = c.in_ok-make_room_to_keep.ensures.same in
    on_ok c.step.result (λ own.
    (λ j. record (doing c.make_room_to_keep.new.self.core) { own = own j })
    ∙ (λ j. record (same j) {
      own = record (same j).own { node = changed c.args.change (same j).own.node };
    })) c.step.ensures.own

-- without memory nothing but room changed
pub returns-clause-err : goal.returns-clause-err
returns-clause-err c =
    on_err c.step.result (λ own.
    (λ j. record (doing c.make_room_to_keep.new.self.core) { own = own j })
    ∙ c.in_ok-make_room_to_keep.ensures.same) c.step.ensures.err

-- the flag and the classes are as they were
pub returns-clause-stays : goal.returns-clause-stays
returns-clause-stays c = record {
  classes = c.in_ok-make_room_to_keep.ensures.stays.classes;
}

-- there is room to leave what nothing holds
pub returns-clause-room : goal.returns-clause-room
returns-clause-room c =
    let keeps = change_keeps c.args.change c.make_room_to_keep.new.self.core.part.own.node in
    let place = c.in_ok-make_room_to_keep.ensures.place in
    on_ok c.step.result (λ own.
    let count = ap (λ (p : Own). length p.node.heap) own ∙ keeps.count in
    let held = ap (λ (p : Own). length p.node.held) own ∙ ap (λ os. length os) keeps.held in
    let asked = ap (λ (p : Own). length p.node.asked) own ∙ ap (λ ws. length ws) keeps.asked in
    let ends = ap (λ (p : Own). length p.node.open_to) own ∙ ap (λ ps. length ps) keeps.ends in
    let pf = place.places.freed in
    let pl = place.places.left in
    let ps = place.places.settled in
    let pp = place.places.places in
    let pw = place.waiting in
    record {
      places = record {
        freed = omega (arith, count, pf);
        left = omega (arith, held, pl);
        settled = omega (arith, asked, ps);
        places = omega (arith, count, held, asked, ends, pp);
      };
      waiting = omega (arith, count, held, pw);
    }) c.step.ensures.own

-- there are places as before, also where memory ran out
pub returns-clause-places : goal.returns-clause-places
returns-clause-places c =
    let mid = c.make_room_to_keep.new.self in
    let new : Core = record mid.core { part = c.step.new.self } in
    let keeps = change_keeps c.args.change mid.core.part.own.node in
    let places = c.in_ok-make_room_to_keep.ensures.places in
    either_way c.step.result
    (on_ok c.step.result (λ own.
    let count = ap (λ (p : Own). length p.node.heap) own ∙ keeps.count in
    let held = ap (λ (p : Own). length p.node.held) own ∙ ap (λ os. length os) keeps.held in
    let asked = ap (λ (p : Own). length p.node.asked) own ∙ ap (λ ws. length ws) keeps.asked in
    let ends = ap (λ (p : Own). length p.node.open_to) own ∙ ap (λ ps. length ps) keeps.ends in
    places_fewer mid.core new mid.told mid.told
    (record {
      stored = omega (arith, count);
      held = omega (arith, held);
      asked = omega (arith, asked);
    }) (omega (arith, held, asked, ends)) (omega arith) (omega arith) (omega arith) places)
    c.step.ensures.own)
    (on_err c.step.result (λ own. places_same mid.core new mid.told mid.told own (omega arith)
    (omega arith) (omega arith) (omega arith) places) c.step.ensures.err)
