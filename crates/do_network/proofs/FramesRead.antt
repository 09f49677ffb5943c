-- In a network that fits, the next frame on its way to a site is read back, and it is taken.
use Rattle.do_network.specs.declared.input.Input.TheVariants as inputs
use Rattle.std.proofs.Common.{◌≡◌, ℕ, Bool, true, false, List, [], ◌∷◌, length, refl, ap, sym}
use Rattle.std.proofs.Common.{subst, ◌∙◌, ◌==◌, Ok, Err, cond}
use Rattle.std.specs.Prelude.{None, Option, Result, Some, is_some, not, option_map, unwrap_or, ◌&&◌}
use Rattle.std.specs.List.{AllByRecursion}
use Rattle.do_class.specs.{Class.Class, Table.IsTable}
use Rattle.do_coder.specs.{declared.recent.pair.Pair.Pair, Packets.{Surroundings, surroundings}}
use Rattle.do_coder.specs.Recent.{IsKnown, IsRecent}
use Rattle.do_frames.specs.declared.frame.{Frame.Frame, RawFrame.RawFrame}
use Rattle.do_frames.specs.Frames.{IsFrame, after_frame, kind_of, payload_spelling, raw}
use Rattle.do_frames.specs.{Kinds.kind_number, Payloads.{SpellsPayload, payload_at}}
use Rattle.do_frames.proofs.payloads.PayloadParts.{number_at}
use Rattle.do_frames.proofs.payloads.WholePayload.{whole_never, whole_only}
use Rattle.do_grammar.specs.Reader.{Stop, no_kind, whole_of}
use Rattle.do_machine.specs.{declared.state.State.State, State.is_open, run.Run.Acting}
use Rattle.do_machine.specs.take.Take.{can_serve, can_take}
use Rattle.do_network.specs.{declared.input.Done.TheVariants.Moved, Faults.peer_fault}
use Rattle.do_network.specs.Frames.{payload_read, read_frame, read_or_place}
use Rattle.do_network.specs.{Links.{Link, Part, having_read, names_read}, Net.{Carried, Channel}}
use Rattle.do_network.specs.{Net.{Lost, Net, Whole, channel, part_at}, Site.{passed, site_step}}
use Rattle.do_network.specs.{Site.{takes, takes_frame}, fits.Fits.{ChannelFits, Fits}}
use Rattle.do_network.{specs.fits.Notes.{Note, carried, note_frame}, proofs.ListSearch.turned}
use Rattle.do_network.proofs.{CountsAreEntries.not_itself, NoFault.fits_faultless}

module _ (table : List Class) (t : IsTable table) (from to : ℕ) (recent : List Pair)
    (r : IsRecent recent) (known : AllByRecursion (IsKnown (length table)) recent) where
  -- what is read of the spelling of a frame is the frame
  read_spelling : (f : Frame) → IsFrame (surroundings table from to) f →
      payload_read (surroundings table from to) recent (payload_spelling recent f)
      (Some (kind_of f)) ≡ Ok f
  read_spelling f fits = go (whole_of no_kind (payload_at s recent (kind_of f)) payload) refl
    where
      s : Surroundings
      s = surroundings table from to

      payload : List ℕ
      payload = payload_spelling recent f

      spelled : SpellsPayload s recent (kind_number (kind_of f)) payload f
      spelled = record { bytes = refl; fits = (refl, fits) }

      go : (answer : Result Frame (Stop (Unit {0}))) →
          whole_of no_kind (payload_at s recent (kind_of f)) payload ≡ answer →
          read_or_place payload answer ≡ Ok f
      go (Ok g) e =
          ap (λ x. Ok x) (whole_only table t from to recent r known (kind_of f)
          (kind_number (kind_of f)) refl payload g f e spelled)
      go (Err stop) e =
          absurd (whole_never table t from to recent r known (kind_of f)
          (kind_number (kind_of f)) refl payload stop f e spelled)

  -- a frame is read back from its spelling by the table of recent names that it was spelled by
  pub read_back : (f : Frame) → IsFrame (surroundings table from to) f →
      read_frame table from to recent (raw recent f) ≡ Ok f
  unfolding read_frame
  read_back f fits =
      ap (payload_read (surroundings table from to) recent (payload_spelling recent f))
      (number_at (kind_of f))
      ∙ read_spelling f fits

-- the first of what is under way, and how it is spelled in the channel
record First (front : List Pair) (xs : List Note) (f : RawFrame) : Type 0 where
  note : Note
  behind : List Note
  is_first : xs ≡ note ∷ behind
  spells : f ≡ raw front (note_frame note)

-- what stands first in a channel, and is no loss, spells what is first under way
first_note : (front : List Pair) (xs : List Note) (f : RawFrame) (rest : List Carried) →
    carried front xs ≡ Whole f ∷ rest → First front xs f
first_note front [] f rest e = absurd cc
first_note front (x ∷ xs) f rest e = go x.lost e
  where
    go : (lost : Bool) →
        cond lost (Lost ∷ carried front xs)
        (Whole (raw front (note_frame x)) ∷ carried (after_frame front (note_frame x)) xs)
        ≡ Whole f ∷ rest → First front (x ∷ xs) f
    go true e = absurd cc
    go false e = record { note = x; behind = xs; is_first = refl; spells = cc }

-- where two tests pass the first does
first_passes : (a b : Bool) → (a && b) ≡ true → a ≡ true
first_passes true b h = refl
first_passes false b h = absurd cc

-- a frame that was read, and is none of the faults, is done
read_is_done : (table : List Class) (act : Acting) (p : Part) (from : ℕ) (f : RawFrame)
    (g : Frame) →
    can_take from p.own.node ≡ true →
    read_frame table from p.own.node.port (names_read p from) f ≡ Ok g →
    peer_fault p.own from g ≡ None → (site_step table act p (inputs.Frame from f)).done ≡ Moved
read_is_done table act p from f g can read faultless =
    ap (λ b. (unwrap_or (cond (not b) None
    (Some (takes table p from (read_frame table from p.own.node.port (names_read p from) f))))
    (passed p)).done) can
    ∙ ap (λ answer. (takes table p from answer).done) read
    ∙ ap (λ fault. (takes_frame table (having_read from g p) from g fault).done) faultless

module _ (table : List Class) (t : IsTable table) (N : Net) (S : State) (F : Fits table N S)
    (port from : ℕ) (p q : Part) (h : part_at N port ≡ Some p) (k : part_at N from ≡ Some q)
    (here : is_open p.own.node from ≡ true) where
  -- the two are apart
  apart : (port == from) ≡ false
  apart = not_itself table N S F port from p h here

  -- the channel between them fits
  fit : ChannelFits table N from port q p (F.under_way from port)
  fit = F.channels from port q p k h (turned port from apart)

  -- the reader's table of names is that by which the first is spelled
  read_by : names_read p from ≡ fit.carries.tables.front
  read_by =
      ap (λ o. unwrap_or (option_map (λ (l : Link). l.read) o) []) fit.reads
      ∙ sym (fit.carries.tables.read here)

  -- the first frame in the channel is read, and is none of the faults
  first_done : (act : Acting) (f : RawFrame) → First fit.carries.tables.front
      (F.under_way from port) f → can_take from p.own.node ≡ true →
      (site_step table act p (inputs.Frame from f)).done ≡ Moved
  first_done act f x can =
      let tables = fit.carries.tables in
      let spelled : AllByRecursion
      (λ y. IsFrame (surroundings table from port) (note_frame y)) (x.note ∷ x.behind) =
      subst (λ ys. AllByRecursion (λ y. IsFrame (surroundings table from port) (note_frame y)) ys)
      x.is_first fit.carries.spelled in
      read_is_done table act p from f (note_frame x.note) can
      (ap (λ to. read_frame table from to (names_read p from) f) (F.owns port p h).port_is
      ∙ ap (λ names. read_frame table from port names f) read_by
      ∙ ap (read_frame table from port tables.front) x.spells
      ∙ read_back table t from port tables.front tables.recent tables.known (note_frame x.note)
      spelled.0)
      (fits_faultless table N S F port from p q h k apart here x.note x.behind x.is_first)

-- the next frame on its way to a site that can take it is taken
pub fits_taken : (table : List Class) → IsTable table → (act : Acting) (N : Net) (S : State) →
    Fits table N S → (port from : ℕ) (p : Part) → part_at N port ≡ Some p →
    can_take from p.own.node ≡ true → (c : Channel) → channel N from port ≡ Some c →
    (f : RawFrame) (rest : List Carried) → c.waiting ≡ Whole f ∷ rest →
    (site_step table act p (inputs.Frame from f)).done ≡ Moved
unfolding fit apart
fits_taken table t act N S F port from p h can c stands f rest waits =
    reach (part_at N from) refl (F.peers port from p h here)
  where
    here : is_open p.own.node from ≡ true
    here = first_passes (is_open p.own.node from) (can_serve p.own.node.stack) can

    reach : (o : Option Part) → part_at N from ≡ o → is_some o ≡ true →
        (site_step table act p (inputs.Frame from f)).done ≡ Moved
    reach None k some = absurd cc
    reach (Some q) k some =
        let fit : ChannelFits table N from port q p (F.under_way from port) =
        F.channels from port q p k h
        (turned port from (not_itself table N S F port from p h here)) in
        let same : c ≡ fit.between = ap (λ o. unwrap_or o c) (sym stands ∙ fit.stands) in
        first_done table t N S F port from p q h k here act f
        (first_note fit.carries.tables.front (F.under_way from port) f rest
        (sym fit.carries.waiting ∙ ap (λ (d : Channel). d.waiting) (sym same) ∙ waits)) can
