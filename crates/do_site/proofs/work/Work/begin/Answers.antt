use Rattle.do_site.proofs.work.Work.begin.Goals as goal
use Rattle.std.proofs.Common.{◌≡◌, arith, false, length, refl, ap, sym, subst, ◌∙◌}
use Rattle.do_machine.specs.{Effect.only, State.is_open, run.Fresh.pushed}
use Rattle.do_network.specs.Own.{Own}
use Rattle.do_part.specs.Names.{AreStored, values_of}
use Rattle.do_stack.specs.Uses.{invocation_values}
use Rattle.do_effects.specs.{Doing.{Doing, does, doing}, Tidy.IsTidy, declared.changing.Core.Core}
use Rattle.do_site.{specs.Room.needed, proofs.{KeptSteps.apart_then, PlansKeep.place_left}}
use Rattle.do_site.proofs.{StepsDone.alone_does, Stored.there_stored}

-- what the invocation names is stored
pub push-requires-clause-stored : goal.push-requires-clause-stored
push-requires-clause-stored c =
    let own = ap (λ (d : Doing). d.own) c.in_ok-make_room.ensures.same in
    subst (λ (p : Own). AreStored p.node (values_of (invocation_values c.args.invocation)))
    (sym own) (there_stored c.args.self.now.core.part.own.node
    (values_of (invocation_values c.args.invocation)) c.in-Some.ensures.there)

-- there is a place to leave what nothing holds then
pub leave-requires-clause-place : goal.leave-requires-clause-place
leave-requires-clause-place c =
    let mid = c.make_room.new.self in
    let one : Core = record mid.core { part = c.push.new.self } in
    let heap = ap (λ (p : Own). length p.node.heap) c.push.ensures.own in
    let held = ap (λ (p : Own). length p.node.held) c.push.ensures.own in
    let asked = ap (λ (p : Own). length p.node.asked) c.push.ensures.own in
    place_left (needed c.to_push.result) mid.core one mid.told mid.told
    c.in_ok-make_room.ensures.room
    (record {
      waiting = omega arith;
      stored = omega (arith, heap);
      held = omega (arith, held);
      asked = omega (arith, asked);
      classes = refl;
    }) refl refl refl c.has_few.ensures.ends c.has_few.ensures.most

-- what a site keeps true is true then
pub returns-clause-kept : goal.returns-clause-kept
returns-clause-kept c table k =
    let old = c.args.self.now in
    let mid = c.make_room.new.self in
    let new = c.leave.new.self in
    let same : doing mid.core ≡ doing old.core = c.in_ok-make_room.ensures.same in
    let own : mid.core.part.own ≡ old.core.part.own = ap (λ (d : Doing). d.own) same in
    let n = pushed c.args.invocation mid.core.part.own.node in
    let one = doing (record mid.core { part = c.push.new.self }) in
    let did : one ≡ does (doing mid.core) (only n) =
    (λ j. record (doing mid.core) { own = c.push.ensures.own j })
    ∙ alone_does (doing mid.core) n (subst IsTidy (sym own) k.tidy) refl refl refl in
    record {
      tidy = c.leave.ensures.tidy;
      apart = apart_then (doing old.core) (doing mid.core) one (doing new.core) (only n) same did
          c.leave.ensures.moved
          (subst (λ (p : Own). is_open p.node p.node.port ≡ false) (sym own) k.apart);
      classes = c.leave.ensures.stays.classes ∙ c.in_ok-make_room.ensures.stays.classes
          ∙ k.classes;
    }
