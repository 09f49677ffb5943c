-- Where what goes to each peer has a spelling, so has all that a site sends.
use Rattle.std.proofs.Common.{◌≡◌, ◌==◌, ℕ, Bool, true, false, cond, List, [], ◌∷◌, ◌++◌, map}
use Rattle.std.proofs.Common.{filter, refl, sym, ap, ◌∙◌, subst}
use Rattle.std.specs.{Prelude.{None, Option, Some, find, is_some, option_map}, List.AllByRecursion}
use Rattle.std.proofs.lemmas.Bool.{eqb-true}
use Rattle.do_class.specs.Class.{Class}
use Rattle.do_coder.specs.Packets.{surroundings}
use Rattle.do_export.specs.Counts.{Counts}
use Rattle.do_frames.specs.Frames.{raw}
use Rattle.do_limits.specs.Spelled.{FrameIsSpelled}
use Rattle.do_machine.specs.{Lists.change_first, declared.state.Parcel.Parcel}
use Rattle.do_network.specs.{Frames.{Posted, all_posted, posted}, Links.{Framed, Greeting, Link}}
use Rattle.do_network.specs.Links.{Piece, Sending, all_sent, change_link, link_to, sendings}
use Rattle.do_network.specs.Spelled.{IsSpelledPiece, IsSpelledSending}
use Rattle.do_network.specs.fits.Notes.{Note, note_frame}
use Rattle.do_agreement.specs.NotesSent.{note_sent, notes_to}
use Rattle.do_agreement.proofs.channels.{SendingsSpelled.first_sent, SendsCarried.sent_over}
use Rattle.do_agreement.proofs.places.KeyedLists.{found_changed, found_elsewhere}
use Rattle.do_agreement.proofs.places.Numbers.{same_number}

-- all of two lists are all of both
pub all_both : {X : Type 0} (P : X → Type 0) (xs ys : List X) → AllByRecursion P xs →
    AllByRecursion P ys → AllByRecursion P (xs ++ ys)
all_both P [] ys h k = k
all_both P (x ∷ xs) ys h k = (h.0, all_both P xs ys h.1 k)

-- a change of what there is leaves it there
some_changed : {X : Type 0} (f : X → X) (o : Option X) → is_some (option_map f o) ≡ is_some o
some_changed f None = refl
some_changed f (Some x) = refl

-- the same links are there, once one was changed
link_still : (n m : ℕ) (f : Link → Link) → ((l : Link) → (f l).peer ≡ l.peer) →
    (links : List Link) → is_some (link_to (change_link n f links) m) ≡ is_some (link_to links m)
link_still n m f keeps links = go (n == m) refl
  where
    go : (b : Bool) → (n == m) ≡ b →
        is_some (link_to (change_link n f links) m) ≡ is_some (link_to links m)
    go true e =
        subst (λ k. is_some (find (λ (l : Link). k == l.peer)
        (change_first (λ (l : Link). n == l.peer) f links))
        ≡ is_some (find (λ (l : Link). k == l.peer) links)) (eqb-true n m e)
        (ap is_some (found_changed (λ (l : Link). l.peer) f keeps n links)
        ∙ some_changed f (find (λ (l : Link). n == l.peer) links))
    go false e = ap is_some (found_elsewhere (λ (l : Link). l.peer) f keeps n m e links)

module _ (table : List Class) (from : ℕ) where
  -- a sending has a spelling
  abbrev Spelled : Sending → Type 0
  Spelled = IsSpelledSending table from

  -- what goes to a peer has a spelling
  abbrev pub NotesSpelled : ℕ → List Note → Type 0
  NotesSpelled to xs =
      AllByRecursion (λ x. FrameIsSpelled (surroundings table from to) (note_frame x)) xs

  -- so has what goes to each peer to which there is a link
  abbrev pub GoesSpelled : Counts → List Parcel → List Link → Type 0
  GoesSpelled received ps links =
      (to : ℕ) → is_some (link_to links to) ≡ true → NotesSpelled to (notes_to received to ps)

  -- the pieces of a frame
  pieces_spelled : (x : Posted) (found : Option Link) →
      (is_some found ≡ true → FrameIsSpelled (surroundings table from x.to) x.frame) →
      AllByRecursion Spelled (sendings x found)
  pieces_spelled x None h = tt
  pieces_spelled x (Some l) h = go l.greeted
    where
      framed : IsSpelledPiece table from x.to (Framed x.frame (raw l.sent x.frame))
      framed = let is = h refl in (is.0, is.1 l.sent)

      go : (b : Bool) → AllByRecursion Spelled
          (map (λ (piece : Piece). record { to = x.to; piece = piece })
          (cond b (Framed x.frame (raw l.sent x.frame) ∷ [])
          (Greeting ∷ Framed x.frame (raw l.sent x.frame) ∷ [])))
      go true = (framed, tt)
      go false = (tt, (framed, tt))

  module _ (received : Counts) where
    -- the first goes to its peer
    first_goes : (x : Parcel) (ps : List Parcel) → NotesSpelled x.to (notes_to received x.to
        (x ∷ ps)) → FrameIsSpelled (surroundings table from x.to) (posted received x).frame
    first_goes x ps = go (x.to == x.to) (same_number x.to)
      where
        go : (b : Bool) → b ≡ true → NotesSpelled x.to (map (note_sent received) (cond b
            (x ∷ filter (λ y. y.to == x.to) ps) (filter (λ y. y.to == x.to) ps))) →
            FrameIsSpelled (surroundings table from x.to) (posted received x).frame
        go true e h = h.0
        go false e h = absurd (cc)

    -- and the rest to theirs
    rest_goes : (x : Parcel) (ps : List Parcel) (to : ℕ) →
        NotesSpelled to (notes_to received to (x ∷ ps)) →
        NotesSpelled to (notes_to received to ps)
    rest_goes x ps to = go (x.to == to)
      where
        go : (b : Bool) → NotesSpelled to (map (note_sent received) (cond b
            (x ∷ filter (λ y. y.to == to) ps) (filter (λ y. y.to == to) ps))) →
            NotesSpelled to (notes_to received to ps)
        go true h = h.1
        go false h = h

    -- all that is sent has a spelling
    pub all_spelled : (ps : List Parcel) (links : List Link) → GoesSpelled received ps links →
        AllByRecursion Spelled (all_sent links (all_posted received ps)).sent
    all_spelled [] links h = tt
    all_spelled (x ∷ ps) links h =
        let here : Posted = posted received x in
        let behind : List Link = change_link x.to (sent_over here.frame) links in
        subst (AllByRecursion Spelled) (sym (first_sent links here (all_posted received ps)))
        (all_both Spelled (sendings here (link_to links x.to)) _
        (pieces_spelled here (link_to links x.to) (λ s. first_goes x ps (h x.to s)))
        (all_spelled ps behind (λ to s. rest_goes x ps to
        (h to (sym (link_still x.to to (sent_over here.frame) (λ l. refl) links) ∙ s)))))
