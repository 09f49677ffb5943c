-- What is spelled next, and what then is left to be spelled.
use Rattle.std.proofs.Common.{◌≡◌, ℕ, false, true, List, [], ◌∷◌, drop, ap, sym, ◌∙◌, ◌==◌, Some}
use Rattle.std.specs.{Prelude.{slice_get, slice_set}, List.position}
use Rattle.do_frames.specs.Frames.{after_frame, raw}
use Rattle.do_network.specs.Links.{Framed, Greeting, Outbox, Sending}
use Rattle.do_streams.specs.{declared.end.{End.End, Outgoing.Outgoing}, Streamed.outbox_of}
use Rattle.do_streams.proofs.FramesInOrder.{next_greets, next_spells}

-- a list with a first element begins with it
pub begins_with : {X : Type 0} (xs : List X) (x : X) → slice_get xs 0 ≡ Some x →
    xs ≡ x ∷ drop 1 xs
begins_with [] x e = absurd (cc)
begins_with (y ∷ ys) x e = let same : y ≡ x = cc in ap (λ v. v ∷ ys) same

-- one thing is sent first, and behind it all else
pub record SendsFirst (was now : Outbox) (s : Sending) : Type 0 where
  pub links : now.links ≡ was.links
  pub sent : was.sent ≡ s ∷ now.sent

module _ (ends later : List End) (was mid : List Outgoing) (x : Outgoing) (xs : List Outgoing)
    (at : ℕ) (e f : End)
    (same : outbox_of ends mid ≡ outbox_of ends was) (front : mid ≡ x ∷ xs)
    (place : position (λ (d : End). x.to == d.peer) ends ≡ Some at)
    (there : slice_get ends at ≡ Some e) (now : later ≡ slice_set ends at f) where
  -- the greeting of a stream that has not begun
  pub greeting_next : (s : Sending) → e.greeted ≡ false → f ≡ record e { greeted = true } →
      s ≡ record { to = e.peer; piece = Greeting } →
      SendsFirst (outbox_of ends was) (outbox_of later mid) s
  greeting_next s new is it =
      let g = next_greets ends x xs at e f place there new is in
      let before : outbox_of ends was ≡ outbox_of ends (x ∷ xs)
      = sym same ∙ ap (outbox_of ends) front in
      let after : outbox_of later mid ≡ outbox_of (slice_set ends at f) (x ∷ xs)
      = (λ j. outbox_of (now j) (front j)) in
      record {
        links = ap (λ (o : Outbox). o.links) after
            ∙ sym (ap (λ (o : Outbox). o.links) (before ∙ g));
        sent = ap (λ (o : Outbox). o.sent) (before ∙ g)
            ∙ (λ j. sym it j ∷ (sym after j).sent);
      }

  -- the oldest frame of a stream that has begun
  pub frame_next : (s : Sending) → e.greeted ≡ true →
      f ≡ record e { sent = after_frame e.sent x.frame } →
      s ≡ record { to = x.to; piece = Framed x.frame (raw e.sent x.frame) } →
      SendsFirst (outbox_of ends was) (outbox_of later xs) s
  frame_next s begun is it =
      let g = next_spells ends x xs at e f place there begun is in
      let before : outbox_of ends was ≡ outbox_of ends (x ∷ xs)
      = sym same ∙ ap (outbox_of ends) front in
      let after : outbox_of later xs ≡ outbox_of (slice_set ends at f) xs
      = ap (λ (ds : List End). outbox_of ds xs) now in
      record {
        links = ap (λ (o : Outbox). o.links) after
            ∙ sym (ap (λ (o : Outbox). o.links) (before ∙ g));
        sent = ap (λ (o : Outbox). o.sent) (before ∙ g)
            ∙ (λ j. sym it j ∷ (sym after j).sent);
      }
