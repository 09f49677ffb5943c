use Rattle.do_base.specs.declared.events.shown.Shown.TheVariants as shows
use Rattle.do_effects.proofs.changing.Core.leave.Goals as goal
use Rattle.std.proofs.Common.{◌≡◌, ◌≤◌, ◌+◌, ◌∙◌, ap, arith, length, map, subst, sym}
use Rattle.std.specs.Prelude.{fold}
use Rattle.do_machine.specs.{State.own, held.Leaving.leaving}
use Rattle.do_network.specs.{Links.{Outbox, sending}, Own.{Own, is_counted}}
use Rattle.do_part.specs.{Left.given_up, Owned.Owned}
use Rattle.do_streams.specs.Streamed.{outbox}
use Rattle.do_effects.specs.{Bounded.HasNoMore, Paying.owed, Tidy.IsTidy}
use Rattle.do_effects.proofs.ObjectsLeft.{few_frames, few_freed, few_left, few_lines, left_done}
use Rattle.do_effects.proofs.ObjectsLeft.{left_fewer, shown_by_port}
use Rattle.do_effects.proofs.{Paid.{left_owes, same_frames}, TidyCounts.counted_is_tidy}

-- no more objects are freed than are stored
pub show_freed-requires : goal.show_freed-requires
show_freed-requires c =
    let p = c.args.self.now.part.own in
    let few = few_lines p.node c.leave.new.freed.items _ (length p.node.heap)
    c.leave.ensures.shown (few_freed p) in
    let same = ap (λ xs. length xs) c.as_slice.ensures.value in
    let room = c.requires.room in
    omega (arith, few, same, room)

-- and no more are given back than are held
pub give_back_all-requires : goal.give_back_all-requires
give_back_all-requires c =
    let p = c.args.self.now.part.own in
    let lines = few_lines p.node c.leave.new.freed.items _ (length p.node.heap)
    c.leave.ensures.shown (few_freed p) in
    let frames = few_frames p.received _ c.leave.new.left.items (length p.node.held)
    c.leave.ensures.sent (few_left p) in
    let same = ap (λ xs. length xs) c.as_slice.ensures.value in
    let also = ap (λ xs. length xs) c.as_slice-2.ensures.value in
    let room = c.requires.room in
    let shown = c.show_freed.ensures.room in
    omega (arith, lines, frames, same, also, room, shown)

-- what is freed is shown, and what is left is given back
pub returns-clause-moved : goal.returns-clause-moved
returns-clause-moved c =
    let p = c.args.self.now.part.own in
    let d = leaving (is_counted p) p.node in
    let own_is : c.give_back_all.new.self.part.own ≡ c.leave.new.self.own
    = ap (λ (q : Owned). q.own) (c.give_back_all.ensures.part ∙ c.show_freed.ensures.part) in
    (λ j. record {
      own = own_is j;
      out = (c.give_back_all.ensures.out
          ∙ ap (λ (o : Outbox). fold sending o (map given_up c.as_slice-2.result.now))
          c.show_freed.ensures.out) j;
      shown = (c.give_back_all.ensures.shown ∙ c.show_freed.ensures.shown) j;
    })
    ∙ left_done p c.leave.new.self.own (outbox c.args.self.now.streams)
    c.args.self.now.streams.shown _ _ c.leave.ensures.own
    (shown_by_port c.leave.new.self.own.node p.node c.as_slice.result.now
    (ap (λ (q : Own). q.node.port) c.leave.ensures.own)
    ∙ ap (λ serials. map (λ serial. shows.Free (own p.node serial)) serials)
    c.as_slice.ensures.value
    ∙ c.leave.ensures.shown)
    (ap (map given_up) c.as_slice-2.ensures.value ∙ c.leave.ensures.sent)

-- a node that keeps only what is reached counts nothing else
pub returns-clause-tidy : goal.returns-clause-tidy
returns-clause-tidy c =
    let p = c.args.self.now.part.own in
    subst IsTidy
    (sym (ap (λ (q : Owned). q.own) (c.give_back_all.ensures.part ∙ c.show_freed.ensures.part)
    ∙ c.leave.ensures.own))
    (counted_is_tidy p (leaving (is_counted p) p.node))

-- and has no more than before
pub returns-clause-fewer : goal.returns-clause-fewer
returns-clause-fewer c =
    let p = c.args.self.now.part.own in
    subst (λ (q : Own). HasNoMore p.node q.node)
    (sym (ap (λ (q : Owned). q.own) (c.give_back_all.ensures.part ∙ c.show_freed.ensures.part)
    ∙ c.leave.ensures.own))
    (left_fewer p)

-- and it owed a frame for each object that it left
pub returns-clause-pays : goal.returns-clause-pays
returns-clause-pays c =
    let p = c.args.self.now.part.own in
    let d = leaving (is_counted p) p.node in
    let owes = subst (λ (q : Own). owed q.node + length d.sent ≤ owed p.node)
    (sym (ap (λ (q : Owned). q.own) (c.give_back_all.ensures.part ∙ c.show_freed.ensures.part)
    ∙ c.leave.ensures.own))
    (left_owes p) in
    let many = same_frames p.received d.sent c.leave.new.left.items c.leave.ensures.sent in
    let same = ap (λ xs. length xs) c.as_slice-2.ensures.value in
    let shown = c.show_freed.ensures.bare in
    let gives = c.give_back_all.ensures.bare in
    omega (arith, owes, many, same, shown, gives)
