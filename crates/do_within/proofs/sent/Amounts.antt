-- A release gives back an object that was received: its amount is above 0.
use Rattle.do_machine.specs.declared.item.Item.TheVariants as items
use Rattle.do_facts.specs.Net as nets
use Rattle.std.proofs.Common.{◌≡◌, ◌==◌, ◌+◌, ◌≤◌, ℕ, Bool, true, false, cond, List, [], ◌∷◌, map}
use Rattle.std.proofs.Common.{filter, refl, sym, ap, subst, arith}
use Rattle.std.{specs.{Prelude.{suc, zero}, List.AllByRecursion}, proofs.lemmas.Bool.eqb-true}
use Rattle.do_coder.specs.{Packets.Surroundings, Recent.IsSerial}
use Rattle.do_export.specs.Counts.{Counts, count_of}
use Rattle.do_packet.specs.Met.{has_object}
use Rattle.do_machine.specs.{declared.{item.Item.Item, state.Parcel.Parcel}, Objects.object_at}
use Rattle.do_network.specs.{Frames.{amount_of, frame_of}, fits.Notes.{Note, note_frame}}
use Rattle.do_facts.specs.{View.posted, links.{Links.{Atom, Links, atoms, links}, Moves.opens}}
use Rattle.do_limits.specs.Spelled.{FrameIsSpelled, ItemIsSpelled}
use Rattle.do_agreement.specs.Accounted.{Accounted, given, told, worth, worth_of}
use Rattle.do_agreement.specs.NotesSent.{note_sent, notes_to}
use Rattle.do_agreement.proofs.{counts.EffectAccounts.either_way, pairs.NotesAsAtoms.items_of}
use Rattle.do_agreement.proofs.{pairs.NotesAsAtoms.posted_total, places.Numbers.same_number}

-- the amount of a release has a spelling
abbrev pub HasAmount : Item → ℕ → Type 0
HasAmount (items.Left serial) amount = IsSerial amount
HasAmount _ amount = Unit {0}

-- so it is of something under way
abbrev pub NoteHasAmount : Note → Type 0
NoteHasAmount x = HasAmount x.item x.amount

-- what gives an object back held it
pub returned_held : (home s : ℕ) (p q : Links) (sent : List (nets.Note Atom)) →
    Accounted home s 1 p q sent → 1 ≤ given home s 1 sent →
    has_object p.held (object_at home s) ≡ true
returned_held home s p q sent k some = go (has_object p.held (object_at home s)) refl
  where
    nothing : has_object p.held (object_at home s) ≡ false → worth home s 1 p ≡ 0
    nothing e = ap (λ b. cond b 1 0) e

    contradiction : worth home s 1 p ≡ 0 → ⊥
    contradiction none =
        either_way (opens q home)
        (λ o. omega (arith, k.still o, none, some))
        (λ shut. either_way (opens p home)
        (λ o. by_told (told home s 1 sent) refl o shut)
        (λ c. omega (arith, (k.shut c).1, some)))
      where
        by_told : (t : ℕ) → told home s 1 sent ≡ t → opens p home ≡ true →
            opens q home ≡ false → ⊥
        by_told zero e o shut = omega (arith, k.untold o shut e, none, some)
        by_told (suc t) e o shut = omega (arith, k.ended o shut (omega (arith, e)), none)

    go : (b : Bool) → has_object p.held (object_at home s) ≡ b → b ≡ true
    go true e = refl
    go false e = absurd (contradiction (nothing e))

module _ (received : Counts) (to : ℕ) where
  -- what is sent gives back only what was received, and so often that the amount has a spelling
  abbrev pub GivesBack : List Parcel → Type 0
  GivesBack sent =
      (s : ℕ) → 1 ≤ given to s 1 (posted links sent) → IsSerial (count_of received to s)

  -- of parcels that do, so do all but the first
  rest_gives : (x : Parcel) (xs : List Parcel) → GivesBack (x ∷ xs) → GivesBack xs
  rest_gives x xs h = λ s k. h s (omega (arith, k, posted_total (worth_of to s 1) to x xs))

  -- a release is worth one
  one_worth : (s : ℕ) → nets.total (worth_of to s 1) (atoms (items.Left s)) ≡ 1
  one_worth s = ap (λ b. cond b 1 0 + 0) (same_number s)

  -- so it gives one back at least
  one_given : (x : Parcel) (xs : List Parcel) → (x.to == to) ≡ true → (s : ℕ) →
      x.item ≡ items.Left s → 1 ≤ given to s 1 (posted links (x ∷ xs))
  one_given x xs here s is =
      omega (
        arith,
        posted_total (worth_of to s 1) to x xs,
        ap (λ b. cond b (nets.total (worth_of to s 1) (atoms x.item)) 0) here,
        ap (λ item. nets.total (worth_of to s 1) (atoms item)) is,
        one_worth s,
      )

  -- the amount of the first
  first_amount : (x : Parcel) (xs : List Parcel) → (x.to == to) ≡ true → GivesBack (x ∷ xs) →
      HasAmount x.item (amount_of received x.to x.item)
  first_amount x xs here h = go x.item refl
    where
      go : (item : Item) → x.item ≡ item → HasAmount item (amount_of received x.to item)
      go (items.Left s) e =
          subst (λ k. IsSerial (count_of received k s)) (sym (eqb-true x.to to here))
          (h s (one_given x xs here s e))
      go _ e = tt

  -- each amount of what goes to the peer
  pub amounts_sent : (sent : List Parcel) → GivesBack sent →
      AllByRecursion NoteHasAmount (notes_to received to sent)
  amounts_sent [] h = tt
  amounts_sent (x ∷ xs) h = go (x.to == to) refl (amounts_sent xs (rest_gives x xs h))
    where
      go : (b : Bool) → (x.to == to) ≡ b →
          AllByRecursion NoteHasAmount (notes_to received to xs) →
          AllByRecursion NoteHasAmount (map (note_sent received) (cond b
          (x ∷ filter (λ y. y.to == to) xs) (filter (λ y. y.to == to) xs)))
      go true e rest = (first_amount x xs e h, rest)
      go false e rest = rest

module _ (around : Surroundings) where
  -- the frame of an item that has a spelling, with an amount that has one
  note_spelled : (item : Item) (amount : ℕ) → ItemIsSpelled around item →
      HasAmount item amount → FrameIsSpelled around (frame_of amount item)
  note_spelled (items.Left s) amount h a = h amount a
  note_spelled _ amount h a = h

  -- each frame of what is under way
  pub notes_spelled : (xs : List Note) → AllByRecursion (ItemIsSpelled around) (items_of xs) →
      AllByRecursion NoteHasAmount xs →
      AllByRecursion (λ x. FrameIsSpelled around (note_frame x)) xs
  notes_spelled [] h a = tt
  notes_spelled (x ∷ xs) h a =
      (note_spelled x.item x.amount h.0 a.0, notes_spelled xs h.1 a.1)
