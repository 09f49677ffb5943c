use Rattle.do_streams.proofs.spelling.spell_next.Goals as goal
use Rattle.std.proofs.Common.{◌≡◌, ◌==◌, ℕ, Some, List, drop, refl, ap, sym, ◌∙◌, subst}
use Rattle.std.specs.{Prelude.{slice_get, slice_set}, List.position}
use Rattle.do_frames.specs.Frames.{frame_spelling, raw}
use Rattle.do_network.specs.Links.{Framed, Outbox}
use Rattle.do_streams.specs.{declared.end.{End.End, Outgoing.Outgoing}, Ordered.AllPlaced}
use Rattle.do_streams.specs.{Reading.{AllKnown, AreKnown}, Streamed.{outbox_of, sending_of}}
use Rattle.do_streams.proofs.NextSpelled.{SendsFirst, begins_with, frame_next, greeting_next}
use Rattle.do_streams.proofs.{LinksRead.{all_at, all_set}, Placed.{on_err, one_front, set_same}}
use Rattle.do_streams.proofs.WaitingFrames.{as_many, end_at, ports_of_set}
use Rattle.do_streams.proofs.spelling.spell_next.Goals.{After-spelled_frame, In_ok-spell_greeting}

-- an end that was put back as it was
stays : (ends : List End) (was mid : List Outgoing) (at : ℕ) (e f : End) →
    outbox_of ends mid ≡ outbox_of ends was → slice_get ends at ≡ Some e →
    f ≡ e → outbox_of (slice_set ends at f) mid ≡ outbox_of ends was
stays ends was mid at e f same there is =
    ap (λ (v : End). outbox_of (slice_set ends at v) mid) is
    ∙ ap (λ (ds : List End). outbox_of ds mid) (set_same ends at e there) ∙ same

-- there is an end for each port
pub is_greeted-requires : goal.is_greeted-requires
is_greeted-requires c =
    as_many c.args.ports.now c.args.ends.now c.requires.ordered
    c.in-Some.at c.in-Some.ensures.within

pub at_mut-requires : goal.at_mut-requires
at_mut-requires c =
    as_many c.args.ports.now c.args.ends.now c.requires.ordered
    c.in-Some.at c.in-Some.ensures.within

-- where the greeting is not spelled the links are as before
pub returns-in_err-spell_greeting-clause-links : goal.returns-in_err-spell_greeting-clause-links
returns-in_err-spell_greeting-clause-links c =
    ap (λ (o : Outbox). o.links) (stays c.args.ends.now c.args.waiting.now.frames
    c.args.waiting.now.frames c.in-Some.at c.at_mut.result.now c.spell_greeting.new.end
    refl c.at_mut.ensures.value c.in_err-spell_greeting.ensures.err)

-- and so is what is sent
pub returns-in_err-spell_greeting-clause-err : goal.returns-in_err-spell_greeting-clause-err
returns-in_err-spell_greeting-clause-err c = on_err c.from_residual.result
    (ap (λ (o : Outbox). o.sent) (stays c.args.ends.now c.args.waiting.now.frames
    c.args.waiting.now.frames c.in-Some.at c.at_mut.result.now c.spell_greeting.new.end
    refl c.at_mut.ensures.value c.in_err-spell_greeting.ensures.err))

-- the greeting comes before all else that is sent
greets_first : (c : In_ok-spell_greeting) →
    SendsFirst (outbox_of c.args.ends.now c.args.waiting.now.frames)
    (outbox_of (slice_set c.args.ends.now c.in-Some.at c.spell_greeting.new.end)
    c.args.waiting.now.frames) (sending_of c.in_ok-spell_greeting.field-0)
greets_first c = greeting_next c.args.ends.now
    (slice_set c.args.ends.now c.in-Some.at c.spell_greeting.new.end) c.args.waiting.now.frames
    c.args.waiting.now.frames c.in-Some.ensures.which.0 (drop 1 c.args.waiting.now.frames)
    c.in-Some.at c.at_mut.result.now c.spell_greeting.new.end refl
    (begins_with c.args.waiting.now.frames c.in-Some.ensures.which.0
    c.in-Some.ensures.which.1)
    (end_at c.args.ports.now c.args.ends.now c.requires.ordered c.in-Some.ensures.which.0.to
    ∙ c.in-Some.ensures.which.2) c.at_mut.ensures.value refl
    (sending_of c.in_ok-spell_greeting.field-0)
    (sym (c.is_greeted.ensures c.at_mut.result.now c.at_mut.ensures.value)
    ∙ c.if-not-is_greeted.true)
    c.in_ok-spell_greeting.ensures.end c.in_ok-spell_greeting.ensures.spelled

-- so the greeting leaves the links behind all that waits
pub returns-then-not-is_greeted-clause-links : goal.returns-then-not-is_greeted-clause-links
returns-then-not-is_greeted-clause-links c =
    (greets_first (goal.at.returns-then-not-is_greeted-clause-links c).In_ok-spell_greeting).links

-- and is sent before what was to be sent
pub returns-then-not-is_greeted-clause-sent : goal.returns-then-not-is_greeted-clause-sent
returns-then-not-is_greeted-clause-sent c =
    (greets_first (goal.at.returns-then-not-is_greeted-clause-sent c).In_ok-spell_greeting).sent

-- the frame that is taken out is the one that was spelled
is_taken : (c : After-spelled_frame) → c.in-Some-take_oldest.taken ≡ c.in-Some-oldest.next.now
is_taken c =
    let same : Some c.in-Some-take_oldest.taken ≡ Some c.in-Some-oldest.next.now
    = sym c.in-Some-take_oldest.is ∙ c.take_oldest.ensures.frame ∙ sym c.in-Some-oldest.ensures in
    cc

-- where the frame is not spelled the links are as before
pub returns-in_err-bytes-clause-links : goal.returns-in_err-bytes-clause-links
returns-in_err-bytes-clause-links c = ap (λ (o : Outbox). o.links)
    (stays c.args.ends.now c.args.waiting.now.frames
    c.args.waiting.now.frames c.in-Some.at c.at_mut-2.result.now c.spell.new.self
    refl c.at_mut-2.ensures.value c.in_err-bytes.ensures.err)

-- and so is what is sent
pub returns-in_err-bytes-clause-err : goal.returns-in_err-bytes-clause-err
returns-in_err-bytes-clause-err c = on_err c.from_residual-in_err-bytes.result
    (ap (λ (o : Outbox). o.sent) (stays c.args.ends.now c.args.waiting.now.frames
    c.args.waiting.now.frames c.in-Some.at c.at_mut-2.result.now c.spell.new.self
    refl c.at_mut-2.ensures.value c.in_err-bytes.ensures.err))

-- the frame comes before all else that is sent
frame_first : (c : After-spelled_frame) →
    SendsFirst (outbox_of c.args.ends.now c.args.waiting.now.frames)
    (outbox_of (slice_set c.args.ends.now c.in-Some.at c.spell.new.self)
    c.take_oldest.new.self.frames) (sending_of c.spelled_frame.result)
frame_first c = frame_next c.args.ends.now
    (slice_set c.args.ends.now c.in-Some.at c.spell.new.self) c.args.waiting.now.frames
    c.args.waiting.now.frames c.in-Some-oldest.next.now c.take_oldest.new.self.frames
    c.in-Some.at c.at_mut-2.result.now c.spell.new.self refl
    (c.take_oldest.ensures.frames c.in-Some-oldest.next.now (sym c.in-Some-oldest.ensures))
    (subst (λ (o : Outgoing). position (λ (d : End). o.to == d.peer) c.args.ends.now
    ≡ Some c.in-Some.at) (one_front c.args.waiting.now.frames c.in-Some.ensures.which.0
    c.in-Some-oldest.next.now c.in-Some.ensures.which.1
    (c.in-Some-oldest.ensures ∙ c.requires.oldest))
    (end_at c.args.ports.now c.args.ends.now c.requires.ordered c.in-Some.ensures.which.0.to
    ∙ c.in-Some.ensures.which.2)) c.at_mut-2.ensures.value refl
    (sending_of c.spelled_frame.result)
    (sym (c.is_greeted.ensures c.at_mut-2.result.now c.at_mut-2.ensures.value)
    ∙ c.if-not-is_greeted.false)
    c.in_ok-bytes.ensures.end
    (subst (λ (x : Outgoing). sending_of c.spelled_frame.result
    ≡ record { to = x.to; piece = Framed x.frame (raw c.at_mut-2.result.now.sent x.frame) })
    (is_taken c) (c.spelled_frame.ensures c.at_mut-2.result.now.sent
    (subst (λ (x : Outgoing). c.in_ok-bytes.bytes
    ≡ frame_spelling c.at_mut-2.result.now.sent x.frame) (sym (is_taken c))
    c.in_ok-bytes.ensures.text)))

-- so the frame leaves the links behind all that waits
pub returns-clause-links : goal.returns-clause-links
returns-clause-links c = (frame_first (goal.at.returns-clause-links c).After-spelled_frame).links

-- and is sent before what was to be sent
pub returns-clause-sent : goal.returns-clause-sent
returns-clause-sent c = (frame_first (goal.at.returns-clause-sent c).After-spelled_frame).sent

-- an end that was put back with the names read lately as they were
known_still : (classes : ℕ) (ends : List End) (at : ℕ) (e f : End) →
    AllKnown classes ends → slice_get ends at ≡ Some e → f.read ≡ e.read →
    AllKnown classes (slice_set ends at f)
known_still classes ends at e f known there same =
    all_set (λ (d : End). AreKnown classes d.read) ends at f known
    (subst (AreKnown classes) (sym same)
    (all_at (λ (d : End). AreKnown classes d.read) ends at e known there))

-- a frame that is spelled leaves the names that were read
pub returns-clause-known : goal.returns-clause-known
returns-clause-known c = λ classes known.
    known_still classes c.args.ends.now c.in-Some.at c.at_mut-2.result.now c.spell.new.self
    known c.at_mut-2.ensures.value (ap (λ (e : End). e.read) c.in_ok-bytes.ensures.end)

-- so does one that is not spelled
pub returns-in_err-bytes-clause-known : goal.returns-in_err-bytes-clause-known
returns-in_err-bytes-clause-known c = λ classes known.
    known_still classes c.args.ends.now c.in-Some.at c.at_mut-2.result.now c.spell.new.self
    known c.at_mut-2.ensures.value (ap (λ (e : End). e.read) c.in_err-bytes.ensures.err)

-- and so does the greeting
pub returns-then-not-is_greeted-clause-known : goal.returns-then-not-is_greeted-clause-known
returns-then-not-is_greeted-clause-known c = λ classes known.
    known_still classes c.args.ends.now c.in-Some.at c.at_mut.result.now
    c.spell_greeting.new.end known c.at_mut.ensures.value
    (ap (λ (e : End). e.read) c.in_ok-spell_greeting.ensures.end)

-- the ends stay those to the ports where a frame is spelled
pub returns-clause-ordered : goal.returns-clause-ordered
returns-clause-ordered c =
    ports_of_set c.args.ports.now c.args.ends.now c.requires.ordered c.in-Some.at
    c.at_mut-2.result.now c.spell.new.self c.at_mut-2.ensures.value
    (ap (λ (e : End). e.peer) c.in_ok-bytes.ensures.end)

-- where it is not
pub returns-in_err-bytes-clause-ordered : goal.returns-in_err-bytes-clause-ordered
returns-in_err-bytes-clause-ordered c =
    ports_of_set c.args.ports.now c.args.ends.now c.requires.ordered c.in-Some.at
    c.at_mut-2.result.now c.spell.new.self c.at_mut-2.ensures.value
    (ap (λ (e : End). e.peer) c.in_err-bytes.ensures.err)

-- where the greeting is
pub returns-then-not-is_greeted-clause-ordered : goal.returns-then-not-is_greeted-clause-ordered
returns-then-not-is_greeted-clause-ordered c =
    ports_of_set c.args.ports.now c.args.ends.now c.requires.ordered c.in-Some.at
    c.at_mut.result.now c.spell_greeting.new.end c.at_mut.ensures.value
    (ap (λ (e : End). e.peer) c.in_ok-spell_greeting.ensures.end)

-- and where it is not
pub returns-in_err-spell_greeting-clause-ordered : goal.returns-in_err-spell_greeting-clause-ordered
returns-in_err-spell_greeting-clause-ordered c =
    ports_of_set c.args.ports.now c.args.ends.now c.requires.ordered c.in-Some.at
    c.at_mut.result.now c.spell_greeting.new.end c.at_mut.ensures.value
    (ap (λ (e : End). e.peer) c.in_err-spell_greeting.ensures.err)

-- the frames that still wait go to ports
pub returns-clause-placed : goal.returns-clause-placed
returns-clause-placed c =
    (subst (AllPlaced c.args.ports.now)
    (c.take_oldest.ensures.frames c.in-Some-oldest.next.now (sym c.in-Some-oldest.ensures))
    c.requires.placed).1
