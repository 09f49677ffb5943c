-- Where what a site sends has a spelling, so has what is under way of it.
use Rattle.std.proofs.Common.{◌≡◌, ◌==◌, ◌++◌, ℕ, Bool, true, false, cond, List, [], ◌∷◌, map}
use Rattle.std.proofs.Common.{filter, fold, refl, sym, ap, ◌∙◌, subst, append-nil}
use Rattle.std.{specs.{Prelude.Some, List.AllByRecursion}, proofs.lemmas.Bool.eqb-true}
use Rattle.do_class.specs.Class.{Class}
use Rattle.do_coder.specs.Packets.{surroundings}
use Rattle.do_export.specs.Counts.{Counts}
use Rattle.do_frames.specs.Frames.{IsFrame, raw}
use Rattle.do_machine.specs.declared.state.Parcel.{Parcel}
use Rattle.do_network.specs.Frames.{Posted, all_posted, posted}
use Rattle.do_network.specs.Links.{Framed, Greeting, Link, Piece, Sending, all_sent, change_link}
use Rattle.do_network.specs.{Links.{link_to, sending, sendings}, Spelled.IsSpelledSending}
use Rattle.do_network.specs.fits.Notes.{Note, note_frame}
use Rattle.do_agreement.specs.NotesSent.{note_sent, notes_to}
use Rattle.do_agreement.proofs.{channels.SendsCarried.sent_over, places.StepAsCommits.sent_before}
use Rattle.do_agreement.proofs.sites.ReaderStays.{sent_once}
use Rattle.do_facts.proofs.EachOfLists.{each_former, each_latter}

-- one frame is sent before the others
pub first_sent : (links : List Link) (x : Posted) (xs : List Posted) →
    (all_sent links (x ∷ xs)).sent
    ≡ sendings x (link_to links x.to)
    ++ (all_sent (change_link x.to (sent_over x.frame) links) xs).sent
first_sent links x xs =
    let sent = sendings x (link_to links x.to) in
    let behind = change_link x.to (sent_over x.frame) links in
    ap (λ s. (fold sending (record { links = behind; sent = s }) xs).sent) (sym (append-nil sent))
    ∙ ap (λ o. o.sent) (sent_before sent [] behind xs)

module _ (table : List Class) (from : ℕ) where
  -- a sending has a spelling
  abbrev Spelled : Sending → Type 0
  Spelled = IsSpelledSending table from

  -- the frame that is sent over a link has one
  framed_spelled : (x : Posted) (l : Link) → AllByRecursion Spelled (sendings x (Some l)) →
      IsFrame (surroundings table from x.to) x.frame
  framed_spelled x l = go l.greeted
    where
      go : (b : Bool) → AllByRecursion Spelled
          (map (λ (piece : Piece). record { to = x.to; piece = piece })
          (cond b (Framed x.frame (raw l.sent x.frame) ∷ [])
          (Greeting ∷ Framed x.frame (raw l.sent x.frame) ∷ []))) →
          IsFrame (surroundings table from x.to) x.frame
      go true all = all.0.0
      go false all = all.1.0.0

  module _ (to : ℕ) (received : Counts) where
    -- an item has a spelling on its way to the peer
    abbrev IsSpelledNote : Note → Type 0
    IsSpelledNote x = IsFrame (surroundings table from to) (note_frame x)

    -- where there is a link to the peer, what goes to it is under way with a spelling
    pub notes_spelled : (ps : List Parcel) (links : List Link) (l : Link) →
        link_to links to ≡ Some l →
        AllByRecursion Spelled (all_sent links (all_posted received ps)).sent →
        AllByRecursion IsSpelledNote (notes_to received to ps)
    notes_spelled [] links l found all = tt
    notes_spelled (x ∷ ps) links l found all =
        let here : Posted = posted received x in
        let now : List Sending = sendings here (link_to links x.to) in
        let behind : List Link = change_link x.to (sent_over here.frame) links in
        let parts = subst (AllByRecursion Spelled)
        (first_sent links here (all_posted received ps)) all in
        let still = sent_once to l.read links (record { link = l; found = found; reads = refl })
        here (x.to == to) refl in
        go (x.to == to) refl (each_former Spelled now _ parts)
        (notes_spelled ps behind still.link still.found (each_latter Spelled now _ parts))
      where
        go : (b : Bool) → (x.to == to) ≡ b →
            AllByRecursion Spelled (sendings (posted received x) (link_to links x.to)) →
            AllByRecursion IsSpelledNote (notes_to received to ps) →
            AllByRecursion IsSpelledNote (map (note_sent received)
            (cond b (x ∷ filter (λ y. y.to == to) ps) (filter (λ y. y.to == to) ps)))
        go false e first rest = rest
        go true e first rest =
            let is : x.to ≡ to = eqb-true x.to to e in (
              subst (λ k. IsFrame (surroundings table from k) (posted received x).frame) is
                  (framed_spelled (posted received x) l
                  (subst (λ f. AllByRecursion Spelled (sendings (posted received x) f))
                  (ap (link_to links) is ∙ found) first)),
              rest,
            )
