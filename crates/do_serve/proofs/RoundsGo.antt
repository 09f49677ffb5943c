-- A turn behind the frames that are handed over before it.
use Rattle.std.proofs.Common.{◌≡◌, ℕ, suc, true, false, List, [], ◌∷◌, ◌++◌, Option, refl, sym, ap}
use Rattle.std.proofs.{Common.{◌∙◌, append_assoc}, lemmas.List.append-nil}
use Rattle.do_output.{specs.Told.TellsMore, proofs.ToldMore.tells_both}
use Rattle.do_link.specs.{Told.{Told, Came}, declared.script.ScriptEvent.ScriptEvent}
use Rattle.do_serve.specs.declared.turning.Turned.TheVariants.{Went, Polls, Ends}
use Rattle.do_serve.specs.{Rules.{Rules, Outgoing}, Peers.Peer, Serving.{Server, Turn, goes, polls}}
use Rattle.do_serve.specs.Serving.{ends, turn, sent_all, serve_from, hears, after_turn}
use Rattle.do_serve.specs.{Handing.{HasHanded, HandsSome, frames_handed}, Turning.TurnsTo}
use Rattle.do_serve.{specs.Rounds.GoesRound, proofs.HandedFrames.frames_both}

module _ {Part : Type 0} (rules : Rules Part) (port : ℕ) (s : Server Part) (peers : List Peer)
    (told told' : Option (List Told)) (h : HasHanded s.core.waiting s.peers peers told told') where
  -- a turn is made behind the frames that were handed over
  turned : (t : Turn Part) → turn rules port (sent_all s peers) ≡ t
      → (turns : ℕ) (more : List Told)
      → serve_from rules port (suc turns) s (h.list ++ more)
      ≡ after_turn rules (serve_from rules port turns) s.core.waiting t (sent_all s peers) more
  turned t e turns more = rw (h.goes more, e) refl

  -- something was done
  pub round_went : (t : Turn Part) → turn rules port (sent_all s peers) ≡ t
      → (u : Server Part) (before after : List ℕ)
      → TurnsTo t (sent_all s peers) u before after Went
      → GoesRound rules port s u told told' before after false
  round_went (goes v text) e u before after w = record {
    list = h.list;
    calls = h.calls;
    handed = h.handed;
    text = text;
    written = w.1;
    goes = λ turns more. rw w.0 (turned (goes v text) e turns more);
  }
  round_went polls e u before after w = absurd w
  round_went ends e u before after w = absurd w

  -- the line `end` was used
  pub round_ended : (t : Turn Part) → turn rules port (sent_all s peers) ≡ t
      → (u : Server Part) (before after : List ℕ)
      → TurnsTo t (sent_all s peers) u before after Ends
      → GoesRound rules port s u told told' before after true
  round_ended (goes v text) e u before after w = absurd w
  round_ended polls e u before after w = absurd w
  round_ended ends e u before after w = record {
    list = h.list;
    calls = h.calls;
    handed = h.handed;
    text = [];
    written = w.1 ∙ sym (append-nil before);
    goes = λ turns more. turned ends e turns more;
  }

  -- the link was polled
  pub round_polled : (t : Turn Part) → turn rules port (sent_all s peers) ≡ t
      → (u : Server Part) (before after : List ℕ)
      → TurnsTo t (sent_all s peers) u before after Polls
      → (told'' : Option (List Told)) (event : ScriptEvent)
      → TellsMore told' told'' (Came event ∷ []) → (v : Server Part)
      → v ≡ record u { peers = hears rules u.core.part event u.peers }
      → GoesRound rules port s v told told'' before after false
  round_polled (goes x text) e u before after w told'' event heard v same = absurd w
  round_polled ends e u before after w told'' event heard v same = absurd w
  round_polled polls e u before after w told'' event heard v same = record {
    list = h.list ++ Came event ∷ [];
    calls = tells_both told told' told'' h.list (Came event ∷ []) h.calls heard;
    handed = frames_both h.list (Came event ∷ []) ∙ append-nil (frames_handed h.list) ∙ h.handed;
    text = [];
    written = w.1 ∙ sym (append-nil before);
    goes = λ turns more. rw (same, w.0)
        (ap (serve_from rules port (suc turns) s)
        (append_assoc h.list (Came event ∷ []) more)
        ∙ turned polls e turns (Came event ∷ more));
  }

-- and so where a poll was
pub hands_heard : (frames : List Outgoing) (peers peers' : List Peer)
    (told told' told'' : Option (List Told)) (event : ScriptEvent)
    → HasHanded frames peers peers' told told' → TellsMore told' told'' (Came event ∷ [])
    → HandsSome frames told told''
hands_heard frames peers peers' told told' told'' event h heard = record {
  list = h.list ++ Came event ∷ [];
  calls = tells_both told told' told'' h.list (Came event ∷ []) h.calls heard;
  front = record {
    rest = [];
    joins = append-nil (frames_handed (h.list ++ Came event ∷ []))
        ∙ frames_both h.list (Came event ∷ []) ∙ append-nil (frames_handed h.list) ∙ h.handed;
  };
}
