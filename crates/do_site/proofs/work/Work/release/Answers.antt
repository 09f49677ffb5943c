use Rattle.do_base.specs.declared.events.shown.Shown.TheVariants as shows
use Rattle.do_base.specs.declared.events.shown.Took.TheVariants as tooks
use Rattle.do_site.proofs.work.Work.release.Goals as goal
use Rattle.std.proofs.Common.{◌≡◌, ◌≤◌, false, true, [], ◌∷◌, ◌++◌, ap, arith, length, refl, sym}
use Rattle.std.proofs.Common.{subst, ◌∙◌}
use Rattle.do_base.specs.declared.events.shown.Shown.{Shown}
use Rattle.do_export.specs.Counts.{count_of}
use Rattle.do_frames.specs.declared.frame.Frame.TheVariants.{Release}
use Rattle.do_machine.specs.{declared.state.Effect.Effect, Objects.object_at, State.is_open}
use Rattle.do_network.specs.{Counting.given_back, Own.Own, Site.frame_move}
use Rattle.do_streams.specs.{Reading.{IsReadBy, names_of}, Streamed.Streamed}
use Rattle.do_effects.specs.{Doing.{Doing, cleared, does, doing, moved}, Tidy.IsTidy}
use Rattle.do_site.{specs.Steps.with_reading, proofs.PlacesKept.closed_place}
use Rattle.do_site.proofs.{ReleasedCounts.released_tidy, StepsDone.{shown_does, then_left}}

pub give_back-requires-clause-open : goal.give_back-requires-clause-open
give_back-requires-clause-open c =
    subst (λ (d : Doing). is_open d.own.node c.args.from ≡ true)
    (sym c.in_ok-make_room_to_close.ensures.same) c.requires.open

pub give_back-requires-clause-few : goal.give_back-requires-clause-few
give_back-requires-clause-few c =
    subst (λ (d : Doing). c.args.amount ≤ count_of d.own.counts c.args.from c.args.serial)
    (sym c.in_ok-make_room_to_close.ensures.same) c.requires.few

pub leave-requires-clause-tidy : goal.leave-requires-clause-tidy
leave-requires-clause-tidy c =
    let own = ap (λ (d : Doing). d.own) c.in_ok-make_room_to_close.ensures.same in
    let mid = c.make_room_to_close.new.self.core.part.own in
    subst IsTidy (sym c.give_back.ensures)
    (released_tidy mid c.args.from c.args.serial c.args.amount
    (subst IsTidy (sym own) c.requires.tidy)
    (subst (λ (p : Own). is_open p.node c.args.from ≡ true) (sym own) c.requires.open))

-- there is a place to leave what nothing holds then
pub leave-requires-clause-place : goal.leave-requires-clause-place
leave-requires-clause-place c =
    let mid = c.make_room_to_close.new.self in
    let heap = ap (λ (p : Own). length p.node.heap) c.give_back.ensures in
    let held = ap (λ (p : Own). length p.node.held) c.give_back.ensures in
    let asked = ap (λ (p : Own). length p.node.asked) c.give_back.ensures in
    let read = ap (λ (s : Streamed). s.room) c.keep_read.ensures.same in
    let line = c.show.ensures.room in
    let ends = ap (λ (p : Own). length p.node.open_to) c.give_back.ensures in
    let bare = ap (λ (s : Streamed). s.bare) c.keep_read.ensures.same in
    let shown = c.show.ensures.bare in
    closed_place mid.core
    (record mid.core { part = c.give_back.new.part; streams = c.show.new.self })
    mid.told mid.told c.in_ok-make_room_to_close.ensures.room
    (record {
      stored = omega (arith, heap);
      held = omega (arith, held);
      asked = omega (arith, asked);
    }) refl refl refl
    (omega (arith, held, asked, ends, bare, shown)) (omega (arith, read, line))

pub returns-clause-ok : goal.returns-clause-ok
returns-clause-ok c table f read is =
    let old = c.args.self.now in
    let mid = c.make_room_to_close.new.self in
    let new = c.leave.new.self in
    let from = c.args.from in
    let same : doing mid.core ≡ doing old.core = c.in_ok-make_room_to_close.ensures.same in
    let own : mid.core.part.own ≡ old.core.part.own = ap (λ (d : Doing). d.own) same in
    let q = given_back from c.args.serial c.args.amount mid.core.part.own in
    let shown : Shown = shows.Took (tooks.Left (object_at c.port-node.result c.args.serial)) in
    let line = shows.Took (tooks.Left (object_at mid.core.part.own.node.port c.args.serial)) in
    let named : shown ≡ line =
    ap (λ port. shows.Took (tooks.Left (object_at port c.args.serial))) c.port-node.ensures in
    let links = c.keep_read.ensures.links f
    (subst (λ (d : Doing). IsReadBy (names_of d.out.links from) f c.args.names) (sym same) read) in
    let d : Doing = record (with_reading from f (doing mid.core)) { own = q } in
    let e : Effect = record { node = q.node; sent = []; shown = line ∷ [] } in
    let one = doing (record mid.core { part = c.give_back.new.part; streams = c.show.new.self }) in
    let kept = c.keep_read.ensures.same in
    let did : one ≡ does d e =
    (λ j. record {
      own = c.give_back.ensures j;
      out = (c.show.ensures.sent
          ∙ (λ i. record {
            links = links i;
            sent = (ap (λ (s : Streamed). s.frames) kept) i;
          })) j;
      shown = (c.show.ensures.shown ∙ ap (λ (s : Streamed). s.shown ++ shown ∷ []) kept
          ∙ ap (λ (x : Shown). mid.core.streams.shown ++ x ∷ []) named) j;
    })
    ∙ shown_does d q.node line (released_tidy mid.core.part.own from c.args.serial c.args.amount
    (subst IsTidy (sym own) c.requires.tidy)
    (subst (λ (p : Own). is_open p.node from ≡ true) (sym own) c.requires.open)) refl refl refl in
    let all : doing new.core ≡ moved (with_reading from f (doing mid.core))
    (frame_move table from (Release c.args.serial c.args.amount) mid.core.part.own) =
    then_left d one (doing new.core) e did c.leave.ensures.moved in
    subst (λ g. doing new.core ≡ moved (with_reading from f (doing old.core))
    (frame_move table from g old.core.part.own)) (sym is)
    (all ∙ ap (λ (x : Doing). moved (with_reading from f x)
    (frame_move table from (Release c.args.serial c.args.amount) x.own)) same)

-- what a site keeps true is true then
pub returns-clause-kept : goal.returns-clause-kept
returns-clause-kept c table k =
    let old = c.args.self.now in
    let mid = c.make_room_to_close.new.self.core.part.own in
    let own = sym (ap (λ (d : Doing). d.own) c.in_ok-make_room_to_close.ensures.same) in
    let q = given_back c.args.from c.args.serial c.args.amount mid in
    let left = ap (λ (d : Doing). d.own) c.leave.ensures.moved
    ∙ ap (λ (p : Own). (cleared p).own) c.give_back.ensures in
    record {
      tidy = c.leave.ensures.tidy;
      apart = subst (λ (p : Own). is_open p.node p.node.port ≡ false) (sym left)
          (subst (λ (p : Own). is_open p.node p.node.port ≡ false) own k.apart);
      classes = c.leave.ensures.stays.classes
          ∙ c.show.ensures.classes
          ∙ ap (λ (s : Streamed). s.classes) c.keep_read.ensures.same
          ∙ c.in_ok-make_room_to_close.ensures.stays.classes ∙ k.classes;
    }
