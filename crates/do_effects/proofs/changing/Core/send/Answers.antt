use Rattle.do_effects.proofs.changing.Core.send.Goals as goal
use Rattle.std.proofs.Common.{◌∙◌, ◌≤◌, ap, arith, subst, sym}
use Rattle.do_frames.specs.declared.frame.Frame.{Frame}
use Rattle.do_network.specs.Links.{sending}
use Rattle.do_streams.specs.Streamed.{outbox}
use Rattle.do_effects.specs.{Sends.sends, Tidy.IsTidy}
use Rattle.do_effects.proofs.ItemsSent.{room_to_name, sent_doing, sent_within}
use Rattle.do_effects.proofs.{NamesSent.sends_counted, TidyCounts.counted_is_tidy}

-- the room to send an item is room to name what it names
pub name_item-requires-clause-room : goal.name_item-requires-clause-room
name_item-requires-clause-room c = room_to_name c.args.item c.args.self.now c.requires.room

-- and room for one frame
pub post-requires : goal.post-requires
post-requires c =
    let room : 1 ≤ c.args.self.now.streams.room = c.requires.room.waiting in
    omega (arith, room)

-- what the names come to is counted, and the frame is that of the item
pub returns-clause-sent : goal.returns-clause-sent
returns-clause-sent c =
    let p = c.args.self.now.part.own in
    sent_doing p c.name_item.new.part.own (outbox c.args.self.now.streams)
    (outbox c.post.new.self) c.args.self.now.streams.shown c.post.new.self.shown c.args.to
    c.args.item
    (sends_counted p c.args.to c.requires.tidy c.requires.open c.args.item c.requires.can
    ∙ sym c.name_item.ensures.own)
    (c.post.ensures.sent
    ∙ ap (λ (f : Frame). sending (outbox c.args.self.now.streams)
    (record { to = c.args.to; frame = f })) c.frame_of.ensures)
    c.post.ensures.shown c.requires.keeps

-- what was sent is counted over open ends alone
pub returns-clause-tidy : goal.returns-clause-tidy
returns-clause-tidy c =
    let p = c.args.self.now.part.own in
    subst IsTidy
    (sends_counted p c.args.to c.requires.tidy c.requires.open c.args.item c.requires.can
    ∙ sym c.name_item.ensures.own) (counted_is_tidy p (sends c.args.to c.args.item p.node))

-- no more room was taken than the names and one frame
pub returns-clause-within : goal.returns-clause-within
returns-clause-within c =
    let p = c.args.self.now.part.own in
    sent_within c.args.to c.args.item c.args.self.now
    (record { part = c.name_item.new.part; streams = c.post.new.self })
    (sends_counted p c.args.to c.requires.tidy c.requires.open c.args.item c.requires.can
    ∙ sym c.name_item.ensures.own)
    c.name_item.ensures.within c.post.ensures.room c.post.ensures.classes
