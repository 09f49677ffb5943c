-- Frames that are handed over, and the frames that a report has.
use Rattle.std.proofs.Common.{◌≡◌, ℕ, suc, List, [], ◌∷◌, ◌++◌, Option, Some, None, refl, sym, ap}
use Rattle.std.{proofs.Common.{◌∙◌, append_assoc, Result, Ok, Err}, specs.Prelude.OnErr}
use Rattle.std.proofs.lemmas.List.{append-nil}
use Rattle.do_link.specs.Told.{Told, Listened, Came, Handed}
use Rattle.do_serve.specs.{Rules.{Rules, Outgoing}, Peers.Peer, Serving.{Server, Turn, goes, polls}}
use Rattle.do_serve.specs.Serving.{ends, turn, sent_all, hand, serve_from, Goes, after_poll}
use Rattle.do_serve.specs.{Serving.{after_turn, after_hand}, Handing.{frames_handed, IsFront}}

-- the frames of one list and then of another
pub frames_both : (xs ys : List Told)
    → frames_handed (xs ++ ys) ≡ frames_handed xs ++ frames_handed ys
frames_both [] ys = refl
frames_both (Handed sent ∷ xs) ys =
    ap (λ (w : List Outgoing). record { to = sent.to; bytes = sent.bytes } ∷ w) (frames_both xs ys)
frames_both (Listened port peers failed ∷ xs) ys = frames_both xs ys
frames_both (Came event ∷ xs) ys = frames_both xs ys

-- frames begin with these
abbrev Begins : List Outgoing → List Outgoing → Type 0
Begins frames whole = IsFront frames whole

-- what stopped has them alone
alone : (frames : List Outgoing) → IsFront frames frames
alone frames = record { rest = []; joins = append-nil frames }

-- what goes on behind them begins with them
first : (frames more : List Outgoing) → IsFront frames (frames ++ more)
first frames more = record { rest = more; joins = refl }

module _ {Part : Type 0} (rules : Rules Part) (port : ℕ) (next : Goes Part) where
  poll_begins : (frames : List Outgoing) (s : Server Part) (told : List Told)
      → IsFront frames (after_poll rules next frames s told).frames
  poll_begins frames s [] = alone frames
  poll_begins frames s (Came event ∷ told) = first frames _
  poll_begins frames s (Listened p peers failed ∷ told) = alone frames
  poll_begins frames s (Handed sent ∷ told) = alone frames

  turn_begins : (frames : List Outgoing) (t : Turn Part) (s : Server Part) (told : List Told)
      → IsFront frames (after_turn rules next frames t s told).frames
  turn_begins frames (goes u text) s told = first frames _
  turn_begins frames polls s told = poll_begins frames s told
  turn_begins frames ends s told = alone frames

  hand_begins : (s : Server Part) (found : Option (List Peer × List Told))
      → IsFront s.core.waiting (after_hand rules port next s found).frames
  hand_begins s None = alone s.core.waiting
  hand_begins s (Some x) =
      turn_begins s.core.waiting (turn rules port (sent_all s x.0)) (sent_all s x.0) x.1

-- the frames of a report begin with those that waited
pub report_begins : {Part : Type 0} (rules : Rules Part) (port turns : ℕ) (s : Server Part)
    (told : List Told) → IsFront s.core.waiting (serve_from rules port (suc turns) s told).frames
report_begins rules port turns s told =
    hand_begins rules port (serve_from rules port turns) s (hand s.core.waiting s.peers told)

-- a front of a front
pub front_of : (xs ys zs : List Outgoing) → IsFront xs ys → IsFront ys zs → IsFront xs zs
front_of xs ys zs p q = record {
  rest = p.rest ++ q.rest;
  joins = sym (append_assoc xs p.rest q.rest) ∙ ap (λ (w : List Outgoing). w ++ q.rest) p.joins
      ∙ q.joins;
}

-- a front behind the same
pub front_behind : (xs ys zs : List Outgoing) → IsFront ys zs → IsFront (xs ++ ys) (xs ++ zs)
front_behind xs ys zs p = record {
  rest = p.rest;
  joins = append_assoc xs ys p.rest ∙ ap (λ (w : List Outgoing). xs ++ w) p.joins;
}

-- what holds anyway holds of an error
pub on_err : {A E : Type 0} (result : Result A E) (P : Type 0) → P → OnErr result P
on_err (Ok a) P p = tt
on_err (Err e) P p = p
