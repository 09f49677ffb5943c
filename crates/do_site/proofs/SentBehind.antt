-- What is sent behind what waits, and over links by which a frame was read.
use Rattle.std.proofs.Common.{◌≡◌, ℕ, Bool, true, false, List, [], ◌∷◌, ◌++◌, refl, ap, sym, ◌∙◌}
use Rattle.std.{proofs.{Common.append_assoc, lemmas.List.append-nil}, specs.Prelude.{fold, ◌==◌}}
use Rattle.do_frames.specs.{declared.frame.Frame.Frame, Frames.after_frame}
use Rattle.do_machine.specs.Lists.{change_first}
use Rattle.do_network.specs.{Frames.Posted, Links.{Link, Outbox, Sending, all_sent, change_link}}
use Rattle.do_network.specs.Links.{link_to, sending, sendings}
use Rattle.do_site.specs.Steps.{link_read}

-- frames are sent over links as they are alone, behind what was sent before
pub sent_behind : (links : List Link) (sent : List Sending) (xs : List Posted) →
    fold sending (record { links = links; sent = sent }) xs
    ≡ record {
      links = (all_sent links xs).links;
      sent = sent ++ (all_sent links xs).sent;
    }
sent_behind links sent [] = λ j. record { links = links; sent = (sym (append-nil sent)) j }
sent_behind links sent (x ∷ xs) =
    let o : Outbox = sending (record { links = links; sent = [] }) x in
    sent_behind o.links (sent ++ o.sent) xs
    ∙ (λ j. record {
      links = (all_sent o.links xs).links;
      sent = (append_assoc sent o.sent (all_sent o.links xs).sent) j;
    })
    ∙ sym (λ j. record {
      links = (ap (λ (b : Outbox). b.links) (sent_behind o.links o.sent xs)) j;
      sent = sent ++ (ap (λ (b : Outbox). b.sent) (sent_behind o.links o.sent xs)) j;
    })

module _ {X : Type 0} (p q : X → Bool) (f g : X → X) (qf : (x : X) → q (f x) ≡ q x)
    (pg : (x : X) → p (g x) ≡ p x) (fg : (x : X) → f (g x) ≡ g (f x)) where
  -- two changes of first elements, of which neither moves what the other looks for, in either order
  pub changes_commute : (xs : List X) →
      change_first p f (change_first q g xs) ≡ change_first q g (change_first p f xs)
  changes_commute [] = refl
  changes_commute (x ∷ xs) = go (p x) (q x) refl refl (changes_commute xs)
    where
      go : (b c : Bool) → p x ≡ b → q x ≡ c →
          change_first p f (change_first q g xs) ≡ change_first q g (change_first p f xs) →
          change_first p f (change_first q g (x ∷ xs))
          ≡ change_first q g (change_first p f (x ∷ xs))
      go true true e d rest = simp (e, d, pg x, qf x) (ap (λ y. y ∷ xs) (fg x))
      go true false e d rest = simp (e, d, pg x, qf x) refl
      go false true e d rest = simp (e, d, pg x, qf x) refl
      go false false e d rest = simp (e, d, pg x, qf x) (ap (λ ys. x ∷ ys) rest)

module _ (from : ℕ) (f : Frame) where
  -- what is sent for a frame is spelled as if none had been read
  sent_alike : (x : Posted) (ls : List Link) →
      sendings x (link_to (change_link from (link_read f) ls) x.to) ≡ sendings x (link_to ls x.to)
  sent_alike x [] = refl
  sent_alike x (l ∷ ls) = go (x.to == l.peer) (from == l.peer) refl refl (sent_alike x ls)
    where
      go : (b c : Bool) → (x.to == l.peer) ≡ b → (from == l.peer) ≡ c →
          sendings x (link_to (change_link from (link_read f) ls) x.to)
          ≡ sendings x (link_to ls x.to) →
          sendings x (link_to (change_link from (link_read f) (l ∷ ls)) x.to)
          ≡ sendings x (link_to (l ∷ ls) x.to)
      go true true e d rest = simp (e, d) refl
      go true false e d rest = simp (e, d) refl
      go false true e d rest = simp (e, d) refl
      go false false e d rest = simp (e, d) rest

  -- the links by which a frame was read, with what was sent
  abbrev pub having_read_by : Outbox → Outbox
  having_read_by o = record o { links = change_link from (link_read f) o.links }

  -- one frame is sent alike before and after another is read
  sent_once : (o : Outbox) (x : Posted) →
      sending (having_read_by o) x ≡ having_read_by (sending o x)
  sent_once o x =
      let spelled : Link → Link =
      λ l. record l { sent = after_frame l.sent x.frame; greeted = true } in
      let links = changes_commute (λ (l : Link). x.to == l.peer) (λ (l : Link). from == l.peer)
      spelled (link_read f) (λ l. refl) (λ l. refl) (λ l. refl) o.links in
      λ j. record { links = links j; sent = o.sent ++ (sent_alike x o.links) j }

  -- so are frames
  pub sent_after_reading : (o : Outbox) (xs : List Posted) →
      fold sending (having_read_by o) xs ≡ having_read_by (fold sending o xs)
  sent_after_reading o [] = refl
  sent_after_reading o (x ∷ xs) =
      ap (λ b. fold sending b xs) (sent_once o x) ∙ sent_after_reading (sending o x) xs
