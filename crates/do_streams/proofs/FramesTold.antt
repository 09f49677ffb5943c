-- What a reader of a payload answers is what is read.
use Rattle.do_frames.specs.declared.frame.Frame.TheVariants as frames
use Rattle.do_frames.specs.declared.kind.Kind.TheVariants as kinds
use Rattle.std.proofs.Common.{◌≡◌, ℕ, true, false, cond, List, length, refl, ap, sym, ◌∙◌, subst}
use Rattle.std.proofs.{Common.{Some, None, Option, Ok, Err, Result, ◌==◌}, lemmas.Bool.eqb-true}
use Rattle.std.specs.List.{AllByRecursion}
use Rattle.do_class.specs.{Class.Class, Table.IsTable}
use Rattle.do_coder.specs.{declared.recent.pair.Pair.Pair, Packets.{Surroundings, surroundings}}
use Rattle.do_coder.specs.Recent.{IsKnown, IsRecent}
use Rattle.do_frames.specs.declared.fault.RawFault.{RawFault, TheVariants.{BadFrame, Memory}}
use Rattle.do_frames.specs.declared.{frame.{Frame.Frame, RawFrame.RawFrame}, kind.Kind.Kind}
use Rattle.do_frames.specs.{Frames.{after_frame, kind_of}, Kinds.{kind_at, kind_number}}
use Rattle.do_frames.specs.Payloads.{FindsFrame, IsBadPayload, SpellsPayload, TellsFrame}
use Rattle.do_frames.{specs.Payloads.payload_at, proofs.payloads.WholePayload.{no_frame, whole_bad}}
use Rattle.do_frames.proofs.payloads.WholePayload.{whole_never, whole_short, whole_spelled}
use Rattle.do_grammar.specs.{Grammar.IsBytes, Reader.{Stop, bad, no_kind, short, whole_of}}
use Rattle.do_network.specs.Frames.{payload_read, read_frame, read_or_place}
use Rattle.do_streams.specs.{Plain.names_objects, Reading.{IsRead, IsReading}}
use Rattle.do_streams.proofs.OneFault.{one_place}

-- the kind of a number, or one of those behind it
one_kind : {rest : Option Kind} (m : ℕ) (c : Kind) (n : ℕ) (k : Kind) → kind_number c ≡ m →
    (rest ≡ Some k → kind_number k ≡ n) → cond (n == m) (Some c) rest ≡ Some k →
    kind_number k ≡ n
one_kind {rest = rest} m c n k is behind = elim (n == m) as (λ b. (n == m) ≡ b →
    cond b (Some c) rest ≡ Some k → kind_number k ≡ n) [
      | true ↦ λ e h.
          let same : c ≡ k = cc in
          ap kind_number (sym same) ∙ is ∙ sym (eqb-true n m e)
      | false ↦ λ e h. behind h
    ] refl

-- a number that has a kind is the number of it
pub kind_is : (n : ℕ) (k : Kind) → kind_at n ≡ Some k → kind_number k ≡ n
kind_is n k =
    one_kind 1 kinds.Call n k refl
    (one_kind 2 kinds.Oneway n k refl
    (one_kind 3 kinds.Reply n k refl
    (one_kind 4 kinds.Raised n k refl
    (one_kind 5 kinds.RootAsk n k refl
    (one_kind 6 kinds.RootAnswer n k refl
    (one_kind 7 kinds.Retain n k refl
    (one_kind 8 kinds.Granted n k refl
    (one_kind 9 kinds.Gone n k refl
    (one_kind 10 kinds.Release n k refl
    (one_kind 11 kinds.Settle n k refl
    (one_kind 12 kinds.Shutdown n k refl (λ h. absurd (cc)))))))))))))

module _ (table : List Class) (t : IsTable table) (from to : ℕ) (recent : List Pair)
    (r : IsRecent recent) (known : AllByRecursion (IsKnown (length table)) recent)
    (raw : RawFrame) (small : IsBytes raw.payload) where
  -- what names mean in a frame from the one node to the other
  abbrev here : Surroundings
  here = surroundings table from to

  -- what a payload of the kind spells, by the names that were named lately
  abbrev Payload : List ℕ → Frame → Type 0
  Payload = SpellsPayload here recent raw.kind

  -- where the number is that of no kind
  none_told : (answer : Result Frame RawFault) → kind_at raw.kind ≡ None →
      TellsFrame here recent raw.kind raw.payload answer → IsRead (Err 0) answer
  none_told (Ok f) none told =
      absurd (no_frame table t from to recent r known raw.kind raw.payload f none told)
  none_told (Err (BadFrame place)) none told =
      let zero : place ≡ 0 =
      subst (λ (o : Option Kind). IsBadPayload o Payload raw.payload place) none told in
      ap (λ at. Err at) (sym zero)
  none_told (Err Memory) none told = tt

  module _ (kind : Kind) (number : kind_number kind ≡ raw.kind)
      (is : kind_at raw.kind ≡ Some kind) where
    -- what the reader of the whole payload answers
    abbrev whole : Result Frame (Stop (Unit {0}))
    whole = whole_of no_kind (payload_at here recent kind) raw.payload

    -- a fault at a place is at that of the reader
    same_place : (place at : ℕ) →
        TellsFrame here recent raw.kind raw.payload (Err (BadFrame place)) →
        IsBadPayload (kind_at raw.kind) Payload raw.payload at → at ≡ place
    same_place place at told stops =
        one_place Payload raw.payload kind at place
        (subst (λ (o : Option Kind). IsBadPayload o Payload raw.payload at) is stops)
        (subst (λ (o : Option Kind). IsBadPayload o Payload raw.payload place) is told)

    -- by what the reader answers
    by_whole : (answer : Result Frame RawFault) (w : Result Frame (Stop (Unit {0}))) →
        whole ≡ w → TellsFrame here recent raw.kind raw.payload answer →
        ((f : Frame) → Payload raw.payload f → FindsFrame f answer) →
        IsRead (read_or_place raw.payload w) answer
    by_whole (Ok x) (Ok g) e told only =
        ap (λ f. Ok f) (sym (only g (whole_spelled table t from to recent r known kind raw.kind
        number raw.payload g small e)))
    by_whole (Ok x) (Err stop) e told only =
        absurd (whole_never table t from to recent r known kind raw.kind number raw.payload stop x
        e told)
    by_whole (Err (BadFrame place)) (Ok g) e told only =
        absurd (only g (whole_spelled table t from to recent r known kind raw.kind number
        raw.payload g small e))
    by_whole (Err (BadFrame place)) (Err short) e told only =
        ap (λ at. Err at) (same_place place (length raw.payload) told
        (whole_short table t from to recent r known kind raw.kind number raw.payload small e))
    by_whole (Err (BadFrame place)) (Err (bad why left)) e told only =
        ap (λ at. Err at) (same_place place _ told
        (whole_bad table t from to recent r known kind raw.kind number raw.payload left small e))
    by_whole (Err Memory) w e told only = tt

  -- an answer that tells what a payload spells, and finds it, is what is read
  pub told_is_read : (answer : Result Frame RawFault) →
      TellsFrame here recent raw.kind raw.payload answer →
      ((f : Frame) → Payload raw.payload f → FindsFrame f answer) →
      IsRead (read_frame table from to recent raw) answer
  unfolding read_frame
  told_is_read answer told only = by_kind (kind_at raw.kind) refl
    where
      -- so for each kind, and where the number is that of none
      by_kind : (o : Option Kind) → kind_at raw.kind ≡ o →
          IsRead (payload_read here recent raw.payload o) answer
      by_kind None e = none_told answer e told
      by_kind (Some kind) e =
          by_whole kind (kind_is raw.kind kind e) e answer (whole kind (kind_is raw.kind kind e) e)
          refl told only

-- a frame with no packet leaves the names as they are
pub plain_stays : (names : List Pair) (f : Frame) →
    names_objects (kind_number (kind_of f)) ≡ false → after_frame names f ≡ names
plain_stays names (frames.Call call serial selector packet) e = absurd (cc)
plain_stays names (frames.Oneway serial selector packet) e = absurd (cc)
plain_stays names (frames.Reply call packet) e = absurd (cc)
plain_stays names (frames.RootAnswer call packet) e = absurd (cc)
plain_stays names (frames.Raised call exc) e = refl
plain_stays names (frames.RootAsk call) e = refl
plain_stays names (frames.Retain serial token) e = refl
plain_stays names (frames.Granted serial token) e = refl
plain_stays names (frames.Gone serial token) e = refl
plain_stays names (frames.Release serial amount) e = refl
plain_stays names (frames.Settle number) e = refl
plain_stays names frames.Shutdown e = refl

module _ (table : List Class) (from to : ℕ) (a b : List Pair) (payload : List ℕ) where
  -- a payload of such a kind is read alike whatever was named
  kinds_alike : (k : Kind) → names_objects (kind_number k) ≡ false →
      payload_at (surroundings table from to) a k ≡ payload_at (surroundings table from to) b k
  kinds_alike kinds.Call e = absurd (cc)
  kinds_alike kinds.Oneway e = absurd (cc)
  kinds_alike kinds.Reply e = absurd (cc)
  kinds_alike kinds.RootAnswer e = absurd (cc)
  kinds_alike kinds.Raised e = refl
  kinds_alike kinds.RootAsk e = refl
  kinds_alike kinds.Retain e = refl
  kinds_alike kinds.Granted e = refl
  kinds_alike kinds.Gone e = refl
  kinds_alike kinds.Release e = refl
  kinds_alike kinds.Settle e = refl
  kinds_alike kinds.Shutdown e = refl

  -- and so a frame of such a kind
  pub plain_alike : (n : ℕ) → names_objects n ≡ false →
      read_frame table from to a (record { kind = n; payload = payload })
      ≡ read_frame table from to b (record { kind = n; payload = payload })
  unfolding read_frame
  plain_alike n e = by_kind (kind_at n) refl
    where
      -- so for each such kind, and where the number is that of none
      by_kind : (o : Option Kind) → kind_at n ≡ o →
          payload_read (surroundings table from to) a payload o
          ≡ payload_read (surroundings table from to) b payload o
      by_kind None h = refl
      by_kind (Some k) h =
          ap (λ read. read_or_place payload (whole_of no_kind read payload))
          (kinds_alike k (ap names_objects (kind_is n k h) ∙ e))

-- what is refused is refused whatever was named
pub as_reading : (names : List Pair) (read : Result Frame ℕ) (fault : RawFault) →
    IsRead read (Err fault) → IsReading names read (Err fault)
as_reading names read (BadFrame place) told = told
as_reading names read Memory told = tt
