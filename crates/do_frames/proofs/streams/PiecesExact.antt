-- The frames of a stream are those of the whole of it, in whatever pieces it comes.
use Rattle.std.proofs.Common.{◌≡◌, ℕ, ◌+◌, ◌-◌, ◌<◌, Bool, true, false, List, [], ◌∷◌, ◌++◌, length}
use Rattle.std.proofs.Common.{drop, take, get_or, None, refl, sym, ap, subst, ◌∙◌, append_assoc}
use Rattle.std.proofs.{Common.{suc, arith}, Math.Seq.take-suc}
use Rattle.std.specs.List.{flat_map, AllByRecursion}
use Rattle.std.proofs.lemmas.{Grind.flat_map-append, List.{append-nil, length-append}}
use Rattle.do_grammar.{specs.Grammar.IsProperFront, proofs.faults.AnswerExact.only}
use Rattle.do_frames.specs.{declared.frame.RawFrame.RawFrame, Frames.raw_spelling}
use Rattle.do_frames.specs.Pieces.{stream_of, Splits, HasRead, joined_pieces}
use Rattle.do_frames.specs.Streams.{hello, greeting, IsRaw, Front, front_at, Stream, place_after}
use Rattle.do_frames.proofs.streams.FrontExact.{Reads-front}

-- ---- what is fed, and what is taken

-- a piece behind a stream stands behind its rest
stream_grows : (frames : List RawFrame) (rest piece : List ℕ)
    → stream_of frames rest ++ piece ≡ stream_of frames (rest ++ piece)
stream_grows [] rest piece = refl
stream_grows (f ∷ frames) rest piece =
    append_assoc hello (flat_map raw_spelling (f ∷ frames) ++ rest) piece
    ∙ ap (λ (w : List ℕ). hello ++ w)
    (append_assoc (flat_map raw_spelling (f ∷ frames)) rest piece)

-- before anything was fed
pub nothing_read : HasRead [] [] (record { greeted = false; place = 0; rest = []; fault = None })
nothing_read = record { whole = refl; each = tt; greeted = refl; place = refl; fault = refl }

-- a piece is fed
pub piece_read : (fed piece : List ℕ) (frames : List RawFrame) (s : Stream) → HasRead fed frames s
    → HasRead (fed ++ piece) frames (record {
      greeted = s.greeted;
      place = s.place;
      rest = s.rest ++ piece;
      fault = s.fault;
    })
piece_read fed piece frames s h =
    let taken : length (fed ++ piece) - length (s.rest ++ piece) ≡ length fed - length s.rest =
    omega (arith, length-append fed piece, length-append s.rest piece) in
    record {
      whole = ap (λ (w : List ℕ). w ++ piece) h.whole ∙ stream_grows frames s.rest piece;
      each = h.each;
      greeted = h.greeted;
      place = h.place ∙ ap (place_after 0) (sym taken);
      fault = h.fault;
    }

-- what was read splits the stream
pub has_split : (fed : List ℕ) (frames : List RawFrame) (s : Stream) → HasRead fed frames s
    → IsProperFront (Front s.greeted) s.rest → Splits fed frames s.rest
has_split fed frames s h front = record {
  whole = h.whole;
  each = h.each;
  partial = subst (λ (b : Bool). IsProperFront (Front b) s.rest) h.greeted front;
}

-- ---- no other frames

-- a proper front of a frame begins with no whole one
no_whole : (greeted : Bool) (rest : List ℕ) (g : RawFrame) (others : List ℕ)
    → IsProperFront (Front greeted) rest → IsRaw g
    → rest ≡ (greeting greeted ++ raw_spelling g) ++ others → ⊥
no_whole greeted rest g others front raw e =
    let text : List ℕ = greeting greeted ++ raw_spelling g in
    let whole : text ++ (others ++ front.next ∷ front.more)
    ≡ (greeting greeted ++ raw_spelling front.value) ++ [] =
    sym (append_assoc text others (front.next ∷ front.more))
    ∙ ap (λ (w : List ℕ). w ++ front.next ∷ front.more) (sym e) ∙ front.spelled.bytes
    ∙ sym (append-nil (greeting greeted ++ raw_spelling front.value)) in
    let o =
    only (Front greeted) (front_at greeted) (Reads-front greeted) text
    (greeting greeted ++ raw_spelling front.value) (others ++ front.next ∷ front.more) [] g
    front.value (record { bytes = refl; fits = raw })
    (record { bytes = refl; fits = front.spelled.fits }) whole in
    let len = ap length o.1 in
    absurd (omega (arith, len, length-append others (front.next ∷ front.more)))

-- frames of a stream that was greeted are its only ones
only_frames : (frames others : List RawFrame) (rest rest' : List ℕ)
    → AllByRecursion IsRaw frames → AllByRecursion IsRaw others → IsProperFront (Front true) rest
    → IsProperFront (Front true) rest'
    → flat_map raw_spelling frames ++ rest ≡ flat_map raw_spelling others ++ rest'
    → frames ≡ others
only_frames [] [] rest rest' each each' front front' e = refl
only_frames [] (g ∷ others) rest rest' each each' front front' e =
    absurd (no_whole true rest g (flat_map raw_spelling others ++ rest') front each'.0
    (e ∙ append_assoc (raw_spelling g) (flat_map raw_spelling others) rest'))
only_frames (f ∷ frames) [] rest rest' each each' front front' e =
    absurd (no_whole true rest' f (flat_map raw_spelling frames ++ rest) front' each.0
    (sym e ∙ append_assoc (raw_spelling f) (flat_map raw_spelling frames) rest))
only_frames (f ∷ frames) (g ∷ others) rest rest' each each' front front' e =
    let same : raw_spelling f ++ (flat_map raw_spelling frames ++ rest)
    ≡ raw_spelling g ++ (flat_map raw_spelling others ++ rest') =
    sym (append_assoc (raw_spelling f) (flat_map raw_spelling frames) rest) ∙ e
    ∙ append_assoc (raw_spelling g) (flat_map raw_spelling others) rest' in
    let o =
    only (Front true) (front_at true) (Reads-front true) (raw_spelling f) (raw_spelling g)
    (flat_map raw_spelling frames ++ rest) (flat_map raw_spelling others ++ rest') f g
    (record { bytes = refl; fits = each.0 }) (record { bytes = refl; fits = each'.0 }) same in
    let rec = only_frames frames others rest rest' each.1 each'.1 front front' o.1 in
    ap (λ (p : RawFrame × List RawFrame). p.0 ∷ p.1)
    (ap (λ (x : RawFrame). (x, frames)) o.0 ∙ ap (λ (xs : List RawFrame). (g, xs)) rec)

-- the first frame of a stream stands behind the greeting
first_apart : (g : RawFrame) (others : List RawFrame) (rest : List ℕ)
    → stream_of (g ∷ others) rest
    ≡ (hello ++ raw_spelling g) ++ (flat_map raw_spelling others ++ rest)
first_apart g others rest =
    ap (λ (w : List ℕ). hello ++ w)
    (append_assoc (raw_spelling g) (flat_map raw_spelling others) rest)
    ∙ sym (append_assoc hello (raw_spelling g) (flat_map raw_spelling others ++ rest))

-- the frames of a stream are its only ones
pub only_split : (stream : List ℕ) (frames others : List RawFrame) (rest rest' : List ℕ)
    → Splits stream frames rest → Splits stream others rest' → frames ≡ others
only_split stream [] [] rest rest' a b = refl
only_split stream [] (g ∷ others) rest rest' a b =
    absurd (no_whole false rest g (flat_map raw_spelling others ++ rest') a.partial b.each.0
    (sym a.whole ∙ b.whole ∙ first_apart g others rest'))
only_split stream (f ∷ frames) [] rest rest' a b =
    absurd (no_whole false rest' f (flat_map raw_spelling frames ++ rest) b.partial a.each.0
    (sym b.whole ∙ a.whole ∙ first_apart f frames rest))
only_split stream (f ∷ frames) (g ∷ others) rest rest' a b =
    let e : stream_of (f ∷ frames) rest ≡ stream_of (g ∷ others) rest' = sym a.whole ∙ b.whole in
    only_frames (f ∷ frames) (g ∷ others) rest rest' a.each b.each a.partial b.partial
    (ap (drop 6) e)

-- before anything came the bytes are a proper front of the greeting
pub nothing_front : IsProperFront (Front false) []
nothing_front = record {
  next = 13;
  more = drop 1 hello ++ raw_spelling (record { kind = 12; payload = [] });
  value = record { kind = 12; payload = [] };
  spelled = record {
    bytes = refl;
    fits = record { kind = (omega arith, omega arith); short = omega arith; small = tt };
  };
}

-- the frames that were read are those of the stream, and no others are
pub has_only : (fed : List ℕ) (frames : List RawFrame) (s : Stream) → HasRead fed frames s
    → IsProperFront (Front s.greeted) s.rest → (others : List RawFrame) (rest : List ℕ)
    → Splits fed others rest → frames ≡ others
has_only fed frames s h front others rest other =
    only_split fed frames others s.rest rest (has_split fed frames s h front) other

-- the next piece stands behind those before it
pub next_piece : (pieces : List (List ℕ)) (k : ℕ) (piece item : List ℕ) → piece ≡ item
    → item ≡ get_or pieces k item → k < length pieces
    → joined_pieces (take k pieces) ++ piece ≡ joined_pieces (take (k + 1) pieces)
next_piece pieces k piece item same there lt =
    let more : take (k + 1) pieces ≡ take k pieces ++ get_or pieces k item ∷ [] =
    ap (λ (n : ℕ). take n pieces) next ∙ take-suc pieces k item lt in
    let one : joined_pieces (get_or pieces k item ∷ []) ≡ piece =
    append-nil (get_or pieces k item) ∙ sym there ∙ sym same in
    ap (λ (w : List ℕ). joined_pieces (take k pieces) ++ w) (sym one)
    ∙ sym (flat_map-append (λ (p : List ℕ). p) (take k pieces) (get_or pieces k item ∷ []))
    ∙ ap joined_pieces (sym more)
  where
    next : k + 1 ≡ suc k
    next = omega arith
