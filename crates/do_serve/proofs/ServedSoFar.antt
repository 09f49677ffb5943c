-- What was told and written so far, and how serving goes on.
use Rattle.std.proofs.Common.{◌≡◌, ℕ, suc, true, false, List, [], ◌++◌, Option, inl, inr, refl, sym}
use Rattle.std.proofs.{Common.{ap, subst, ◌∙◌, append_assoc}, lemmas.List.append-nil}
use Rattle.do_base.specs.outside.Bytes.{with_more, HasWritten}
use Rattle.do_output.{specs.Told.TellsMore, proofs.ToldMore.tells_both}
use Rattle.do_output.proofs.SentIsPrefix.{IsAhead, ahead_prefix, ahead_part, ahead_whole}
use Rattle.do_link.specs.Told.{Told}
use Rattle.do_serve.specs.{Rules.{Rules, Outgoing}, Record.{first_line, last_line}}
use Rattle.do_serve.specs.Serving.{Server, Report, serve_from, in_front, stopped, ended, spent}
use Rattle.do_serve.specs.{Handing.{frames_handed, IsFront, HandsSome}, Rounds.GoesRound}
use Rattle.do_serve.specs.Answers.{IsWhole, IsBroken, Breaks}
use Rattle.do_serve.proofs.HandedFrames.{frames_both, report_begins, front_behind, front_of}

-- Over so many turns from a server on this was told, and this text written; so many turns from
-- another server on are left.
pub record SoFar {Part : Type 0} (rules : Rules Part) (port turns left : ℕ) (s t : Server Part)
    (told told' : Option (List Told)) (text : List ℕ) : Type 0 where
  pub list : List Told
  pub calls : TellsMore told told' list
  pub goes : (more : List Told) → serve_from rules port turns s (list ++ more)
      ≡ in_front text (frames_handed list) (serve_from rules port left t more)

-- one report in front of another
in_both : (a b : List ℕ) (xs ys : List Outgoing) (r : Report)
    → in_front a xs (in_front b ys r) ≡ in_front (a ++ b) (xs ++ ys) r
in_both a b xs ys r = rw (append_assoc a b r.text, append_assoc xs ys r.frames) refl

module _ {Part : Type 0} (rules : Rules Part) (port : ℕ) where
  -- one round more
  pub so_far_more : (turns left : ℕ) (s t u : Server Part) (a b c : Option (List Told))
      (text before after : List ℕ) → SoFar rules port turns (suc left) s t a b text
      → (r : GoesRound rules port t u b c before after false)
      → SoFar rules port turns left s u a c (text ++ r.text)
  so_far_more turns left s t u a b c text before after f r = record {
    list = f.list ++ r.list;
    calls = tells_both a b c f.list r.list f.calls r.calls;
    goes = λ more. ap (serve_from rules port turns s) (append_assoc f.list r.list more)
        ∙ f.goes (r.list ++ more)
        ∙ ap (in_front text (frames_handed f.list)) (r.goes left more)
        ∙ in_both text r.text (frames_handed f.list) t.core.waiting
        (serve_from rules port left u more)
        ∙ ap (λ (w : List Outgoing). in_front (text ++ r.text) w
        (serve_from rules port left u more))
        (ap (λ (w : List Outgoing). frames_handed f.list ++ w) (sym r.handed)
        ∙ sym (frames_both f.list r.list));
  }

-- ---- what is written

-- a front of a text is a front of a longer one
ahead_longer : (before now : Option (List ℕ)) (waiting whole more : List ℕ)
    → IsAhead before now waiting [] whole → IsAhead before now waiting more (whole ++ more)
ahead_longer before now waiting whole more a = record {
  sent = a.sent;
  written = a.written;
  joins = ap (λ (w : List ℕ). w ++ more) (sym (append-nil (a.sent ++ waiting)) ∙ a.joins);
}

-- a round's text waits behind the others
pub ahead_round : (before now : Option (List ℕ)) (waiting after first text more : List ℕ)
    → after ≡ waiting ++ more → IsAhead before now waiting [] (first ++ text)
    → IsAhead before now after [] (first ++ (text ++ more))
ahead_round before now waiting after first text more e a = record {
  sent = a.sent;
  written = a.written;
  joins = append-nil (a.sent ++ after) ∙ ap (λ (w : List ℕ). a.sent ++ w) e
      ∙ sym (append_assoc a.sent waiting more)
      ∙ ap (λ (w : List ℕ). w ++ more) (sym (append-nil (a.sent ++ waiting)) ∙ a.joins)
      ∙ append_assoc first text more;
}

-- what was sent begins the whole record
written_front : (before now : Option (List ℕ)) (waiting first text rest : List ℕ)
    → IsAhead before now waiting [] (first ++ text)
    → HasWritten before now (first ++ (text ++ rest))
written_front before now waiting first text rest a =
    subst (HasWritten before now) (append_assoc first text rest)
    (ahead_prefix before now waiting rest ((first ++ text) ++ rest)
    (ahead_longer before now waiting (first ++ text) rest a))

-- and so it does behind some of what waits
part_front : (before now then : Option (List ℕ)) (waiting first text rest : List ℕ)
    → HasWritten now then waiting → IsAhead before now waiting [] (first ++ text)
    → HasWritten before then (first ++ (text ++ rest))
part_front before now then waiting first text rest taken a =
    subst (HasWritten before then) (append_assoc first text rest)
    (ahead_part before now then waiting rest ((first ++ text) ++ rest) taken
    (ahead_longer before now waiting (first ++ text) rest a))

-- and so it does where all that waits was to be written
breaks_front : (before mid now : Option (List ℕ)) (waiting whole : List ℕ)
    → Breaks mid now waiting → IsAhead before mid waiting [] whole → HasWritten before now whole
breaks_front before mid now waiting whole (inl same) a =
    rw same (ahead_prefix before mid waiting [] whole a)
breaks_front before mid now waiting whole (inr taken) a =
    ahead_part before mid now waiting [] whole taken a

-- ---- how it ends

module _ {Part : Type 0} (rules : Rules Part) (port : ℕ) where
  -- the report over what was told so far
  report_now : (turns left : ℕ) (s t : Server Part) (a b : Option (List Told)) (text : List ℕ)
      → (f : SoFar rules port turns left s t a b text)
      → serve_from rules port turns s f.list
      ≡ in_front text (frames_handed f.list) (serve_from rules port left t [])
  report_now turns left s t a b text f =
      ap (serve_from rules port turns s) (sym (append-nil f.list)) ∙ f.goes []

  -- all turns were taken
  pub is_spent : (turns : ℕ) (s t : Server Part) (a b : Option (List Told))
      (text waiting : List ℕ) (before mid now : Option (List ℕ))
      → (f : SoFar rules port turns 0 s t a b text)
      → IsAhead before mid waiting [] (first_line port ++ text) → now ≡ with_more mid waiting
      → IsWhole port before now f.list (serve_from rules port turns s f.list) spent
  is_spent turns s t a b text waiting before mid now f ahead e =
      rw (report_now turns 0 s t a b text f) (record {
        stops = refl;
        written = ahead_whole before mid now waiting _ e ahead
            ∙ ap (λ (w : List ℕ). with_more before (first_line port ++ w))
            (sym (append-nil text));
        handed = sym (append-nil (frames_handed f.list));
      })

  -- what the line `end` leaves, told behind the others
  report_then : (turns left : ℕ) (s t u : Server Part) (a b c : Option (List Told))
      (text waiting after : List ℕ) → (f : SoFar rules port turns (suc left) s t a b text)
      → (r : GoesRound rules port t u b c waiting after true)
      → serve_from rules port turns s (f.list ++ r.list) ≡ in_front text (frames_handed f.list)
      (stopped (r.text ++ last_line) t.core.waiting ended)
  report_then turns left s t u a b c text waiting after f r =
      f.goes r.list ∙ ap (in_front text (frames_handed f.list))
      (ap (serve_from rules port (suc left) t) (sym (append-nil r.list)) ∙ r.goes left [])

  -- all its frames were handed over
  handed_then : (turns left : ℕ) (s t u : Server Part) (a b c : Option (List Told))
      (text waiting after : List ℕ) → (f : SoFar rules port turns (suc left) s t a b text)
      → (r : GoesRound rules port t u b c waiting after true)
      → frames_handed (f.list ++ r.list) ≡ frames_handed f.list ++ t.core.waiting
  handed_then turns left s t u a b c text waiting after f r = frames_both f.list r.list
      ∙ ap (λ (w : List Outgoing). frames_handed f.list ++ w) r.handed

  -- its last line waits behind the others
  ahead_then : (s t : Server Part) (b c : Option (List Told)) (text waiting after : List ℕ)
      (before mid : Option (List ℕ)) → (r : GoesRound rules port s t b c waiting after true)
      → IsAhead before mid waiting [] (first_line port ++ text)
      → IsAhead before mid (after ++ last_line) []
      (first_line port ++ (text ++ (r.text ++ last_line)))
  ahead_then s t b c text waiting after before mid r ahead =
      ahead_round before mid waiting (after ++ last_line) (first_line port) text
      (r.text ++ last_line)
      (ap (λ (w : List ℕ). w ++ last_line) r.written ∙ append_assoc waiting r.text last_line) ahead

  -- the line `end` was used, and all was written
  pub has_ended : (turns left : ℕ) (s t u : Server Part) (a b c : Option (List Told))
      (text waiting after : List ℕ) (before mid now : Option (List ℕ))
      → (f : SoFar rules port turns (suc left) s t a b text)
      → (r : GoesRound rules port t u b c waiting after true)
      → IsAhead before mid waiting [] (first_line port ++ text)
      → now ≡ with_more mid (after ++ last_line)
      → IsWhole port before now (f.list ++ r.list)
      (serve_from rules port turns s (f.list ++ r.list)) ended
  has_ended turns left s t u a b c text waiting after before mid now f r ahead e =
      rw (report_then turns left s t u a b c text waiting after f r) (record {
        stops = refl;
        written = ahead_whole before mid now (after ++ last_line) _ e
            (ahead_then t u b c text waiting after before mid r ahead);
        handed = handed_then turns left s t u a b c text waiting after f r;
      })

  -- the line `end` was used, and writing was broken off
  pub is_broken_then : (turns left : ℕ) (s t u : Server Part) (a b c : Option (List Told))
      (text waiting after : List ℕ) (before mid now : Option (List ℕ))
      → (f : SoFar rules port turns (suc left) s t a b text)
      → (r : GoesRound rules port t u b c waiting after true)
      → IsAhead before mid waiting [] (first_line port ++ text)
      → Breaks mid now (after ++ last_line)
      → IsBroken port before now (f.list ++ r.list)
      (serve_from rules port turns s (f.list ++ r.list))
  is_broken_then turns left s t u a b c text waiting after before mid now f r ahead broken =
      rw (report_then turns left s t u a b c text waiting after f r) (record {
        written = breaks_front before mid now (after ++ last_line) _ broken
            (ahead_then t u b c text waiting after before mid r ahead);
        handed = record {
          rest = [];
          joins = append-nil (frames_handed (f.list ++ r.list))
              ∙ handed_then turns left s t u a b c text waiting after f r;
        };
      })

  -- a round was broken off
  pub is_broken_in : (turns left : ℕ) (s t : Server Part) (a b c : Option (List Told))
      (text waiting : List ℕ) (before now : Option (List ℕ))
      → (f : SoFar rules port turns (suc left) s t a b text)
      → (h : HandsSome t.core.waiting b c)
      → IsAhead before now waiting [] (first_line port ++ text)
      → IsBroken port before now (f.list ++ h.list)
      (serve_from rules port turns s (f.list ++ h.list))
  is_broken_in turns left s t a b c text waiting before now f h ahead =
      rw (f.goes h.list) (record {
        written = written_front before now waiting (first_line port) text _ ahead;
        handed = subst (λ (w : List Outgoing). IsFront w (frames_handed f.list
            ++ (serve_from rules port (suc left) t h.list).frames))
            (sym (frames_both f.list h.list))
            (front_behind (frames_handed f.list) (frames_handed h.list) _
            (front_of (frames_handed h.list) t.core.waiting _ h.front
            (report_begins rules port left t h.list)));
      })

  -- writing was broken off
  pub is_broken_at : (turns left : ℕ) (s t : Server Part) (a b : Option (List Told))
      (text waiting : List ℕ) (before mid now : Option (List ℕ))
      → (f : SoFar rules port turns left s t a b text)
      → HasWritten mid now waiting → IsAhead before mid waiting [] (first_line port ++ text)
      → IsBroken port before now f.list (serve_from rules port turns s f.list)
  is_broken_at turns left s t a b text waiting before mid now f taken ahead =
      rw (report_now turns left s t a b text f) (record {
        written = part_front before mid now waiting (first_line port) text _ taken ahead;
        handed = record { rest = (serve_from rules port left t []).frames; joins = refl };
      })
