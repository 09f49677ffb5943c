use Rattle.do_site.proofs.work.Work.time_out.Goals as goal
use Rattle.std.proofs.Common.{◌≡◌, arith, false, length, true, Some, refl, ap, sym, subst, ◌∙◌}
use Rattle.std.specs.{Prelude.◌==◌, List.list_any}
use Rattle.do_machine.specs.{Effect.only, State.is_open, ends.TimeOut.time_out}
use Rattle.do_network.specs.Own.{Own}
use Rattle.do_effects.specs.{Doing.{Doing, does, doing}, Tidy.IsTidy, declared.changing.Core.Core}
use Rattle.do_site.{specs.{Room.needed, Steps.Does}, proofs.KeptSteps.{apart_then, made_then_left}}
use Rattle.do_site.proofs.{PlansKeep.place_left, StepsDone.{Keeps, alone_does, time_out_keeps}}

-- the call is given up, and then what nothing holds is left
pub returns-clause-done : goal.returns-clause-done
returns-clause-done c =
    let old = c.args.self.now in
    let mid = c.make_room.new.self in
    let m = c.abandon.new.self.own.node in
    let new = c.leave.new.self in
    let same : doing mid.core ≡ doing old.core = c.in_ok-make_room.ensures.same in
    let own : mid.core.part.own ≡ old.core.part.own = ap (λ (d : Doing). d.own) same in
    let given : time_out old.core.part.own.node ≡ Some (only m) =
    sym (ap (λ (p : Own). time_out p.node) own) ∙ c.abandon.ensures.node in
    let keeps : Keeps mid.core.part.own.node m =
    time_out_keeps mid.core.part.own.node m c.abandon.ensures.node in
    let did : doing (record mid.core { part = c.abandon.new.self })
    ≡ does (doing mid.core) (only m) =
    (λ j. record (doing mid.core) { own = c.abandon.ensures.rest j })
    ∙ alone_does (doing mid.core) m (subst IsTidy (sym own) c.requires.tidy) keeps.ends keeps.held
    keeps.asked in
    subst (λ o. Does old.core new.core true o) (sym given) (
      refl,
      made_then_left (doing old.core) (doing mid.core)
          (doing (record mid.core { part = c.abandon.new.self })) (doing new.core) (only m) same did
          c.leave.ensures.moved,
    )

-- there is a place to leave what nothing holds then
pub leave-requires-clause-place : goal.leave-requires-clause-place
leave-requires-clause-place c =
    let mid = c.make_room.new.self in
    let m = c.abandon.new.self.own.node in
    let one : Core = record mid.core { part = c.abandon.new.self } in
    let keeps : Keeps mid.core.part.own.node m =
    time_out_keeps mid.core.part.own.node m c.abandon.ensures.node in
    let heap = ap (λ xs. length xs) keeps.heap in
    let held = ap (λ xs. length xs) keeps.held in
    let asked = ap (λ xs. length xs) keeps.asked in
    place_left (needed c.to_push.result) mid.core one mid.told mid.told
    c.in_ok-make_room.ensures.room
    (record {
      waiting = omega arith;
      stored = omega (arith, heap);
      held = omega (arith, held);
      asked = omega (arith, asked);
      classes = refl;
    }) refl refl refl c.has_few.ensures.ends c.has_few.ensures.most

-- what a site keeps true is true then
pub returns-clause-kept : goal.returns-clause-kept
returns-clause-kept c table k =
    let old = c.args.self.now in
    let mid = c.make_room.new.self in
    let m = c.abandon.new.self.own.node in
    let new = c.leave.new.self in
    let same : doing mid.core ≡ doing old.core = c.in_ok-make_room.ensures.same in
    let own : mid.core.part.own ≡ old.core.part.own = ap (λ (d : Doing). d.own) same in
    let keeps : Keeps mid.core.part.own.node m =
    time_out_keeps mid.core.part.own.node m c.abandon.ensures.node in
    let one = doing (record mid.core { part = c.abandon.new.self }) in
    let did : one ≡ does (doing mid.core) (only m) =
    (λ j. record (doing mid.core) { own = c.abandon.ensures.rest j })
    ∙ alone_does (doing mid.core) m (subst IsTidy (sym own) k.tidy) keeps.ends keeps.held
    keeps.asked in
    record {
      tidy = c.leave.ensures.tidy;
      apart = apart_then (doing old.core) (doing mid.core) one (doing new.core) (only m) same did
          c.leave.ensures.moved
          ((λ j. list_any (λ p. p == keeps.port j) (keeps.ends j))
          ∙ subst (λ (p : Own). is_open p.node p.node.port ≡ false) (sym own) k.apart);
      classes = c.leave.ensures.stays.classes ∙ c.in_ok-make_room.ensures.stays.classes
          ∙ k.classes;
    }
