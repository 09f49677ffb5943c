use Rattle.do_site.proofs.work.Work.take_allowed.Goals as goal
use Rattle.std.proofs.Common.{◌∙◌, ap, subst, sym}
use Rattle.do_export.specs.Counts.{count_of}
use Rattle.do_frames.specs.declared.frame.Frame.{Frame as Framed}
use Rattle.do_machine.specs.declared.item.Item.{Item}
use Rattle.do_network.specs.{Faults.peer_fault, Site.{Move, frame_move}}
use Rattle.do_effects.specs.Doing.{doing}
use Rattle.do_site.{specs.Steps.{Makes, item_move, with_reading}, proofs.EndingRulings.late_kinds}
use Rattle.do_site.proofs.{FramesTaken.{item_moves, none_over}, PlansKeep.on_ok}

-- no more names come back than were sent
pub release-requires-clause-few : goal.release-requires-clause-few
release-requires-clause-few c =
    let own = c.args.self.now.core.part.own in
    none_over (count_of own.counts c.args.from c.in-Release.serial) c.in-Release.amount
    (sym (ap (λ (f : Framed). peer_fault own c.args.from f) c.in-Release.is) ∙ c.requires.may)

-- names are given back
pub returns-in-Release-clause-ok : goal.returns-in-Release-clause-ok
returns-in-Release-clause-ok c =
    on_ok c.release.result (λ done. done c.args.table.now c.args.frame c.requires.read
    c.in-Release.is) c.release.ensures.ok

-- a lend is over
pub returns-in-Settle-clause-ok : goal.returns-in-Settle-clause-ok
returns-in-Settle-clause-ok c =
    let old = c.args.self.now.core in
    on_ok c.settled.result (λ done. subst (λ (f : Framed). Makes
    (with_reading c.args.from c.args.frame (doing old)) c.settled.new.self.core
    (frame_move c.args.table.now c.args.from f old.part.own)) (sym c.in-Settle.is)
    (done c.args.frame c.requires.read)) c.settled.ensures.ok

-- the peer closed its end
pub returns-in-Shutdown-clause-ok : goal.returns-in-Shutdown-clause-ok
returns-in-Shutdown-clause-ok c =
    let old = c.args.self.now.core in
    on_ok c.shut.result (λ done. subst (λ (f : Framed). Makes
    (with_reading c.args.from c.args.frame (doing old)) c.shut.new.self.core
    (frame_move c.args.table.now c.args.from f old.part.own)) (sym c.in-Shutdown.is)
    (done c.args.frame c.requires.read)) c.shut.ensures.ok

-- any other frame is taken as its item
pub returns-in_default-clause-ok : goal.returns-in_default-clause-ok
returns-in_default-clause-ok c =
    let old = c.args.self.now.core in
    let table = c.args.table.now in
    let from = c.args.from in
    on_ok c.take_item.result (λ done. subst (λ (m : Move). Makes
    (with_reading from c.args.frame (doing old)) c.take_item.new.self.core m)
    (ap (λ (x : Item). item_move table from x old.part.own) c.item_of-item.ensures
    ∙ item_moves table from c.args.frame old.part.own c.in_default.not-Release)
    (done c.args.frame c.requires.read)) c.take_item.ensures.ok

-- which is of no late kind
pub returns-in_default-clause-sure : goal.returns-in_default-clause-sure
returns-in_default-clause-sure c = λ late fetched.
    absurd (late_kinds c.args.frame late c.in_default.not-Release c.in_default.not-Settle
    c.in_default.not-Shutdown)
