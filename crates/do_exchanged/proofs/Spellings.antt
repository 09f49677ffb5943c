-- No spelling of a frame begins another's, and streams of one frame more.
use Rattle.std.proofs.Common.{◌≡◌, ◌++◌, ◌/◌, ◌%◌, ℕ, true, false, List, [], ◌∷◌, length, drop}
use Rattle.std.proofs.Common.{take, refl, sym, ap, ◌∙◌, arith, append_assoc, append-nil, get_or}
use Rattle.std.{specs.List.flat_map, proofs.lemmas.Grind.flat_map-append}
use Rattle.do_grammar.specs.Num.{digits}
use Rattle.do_frames.specs.{Frames.raw_spelling, Pieces.{some_frame, stream_of}, Streams.hello}
use Rattle.do_frames.specs.declared.frame.RawFrame.{RawFrame}

-- the digits of a number are those of no other
digits_only : (n m : ℕ) → digits 4 n ≡ digits 4 m → n ≡ m
digits_only n m e =
    let a : n / 16777216 ≡ m / 16777216 = ap (λ (xs : List ℕ). get_or xs 0 0) e in
    let b : (n % 16777216) / 65536 ≡ (m % 16777216) / 65536 =
    ap (λ (xs : List ℕ). get_or xs 1 0) e in
    let c : ((n % 16777216) % 65536) / 256 ≡ ((m % 16777216) % 65536) / 256 =
    ap (λ (xs : List ℕ). get_or xs 2 0) e in
    let d : (((n % 16777216) % 65536) % 256) / 1 ≡ (((m % 16777216) % 65536) % 256) / 1 =
    ap (λ (xs : List ℕ). get_or xs 3 0) e in
    omega (arith, a, b, c, d)

-- two lists of one length, each before another, are one where both are
fronts_same : (xs ys us vs : List ℕ) → length xs ≡ length ys → xs ++ us ≡ ys ++ vs → xs ≡ ys
fronts_same [] [] us vs n e = refl
fronts_same [] (y ∷ ys) us vs n e = absurd (cc)
fronts_same (x ∷ xs) [] us vs n e = absurd (cc)
fronts_same (x ∷ xs) (y ∷ ys) us vs n e =
    let first : x ≡ y = ap (λ (zs : List ℕ). get_or zs 0 0) e in
    let rest = fronts_same xs ys us vs (omega (arith, n)) (ap (drop 1) e) in
    ap (λ z. z ∷ xs) first ∙ ap (λ zs. y ∷ zs) rest

-- the spelling of a frame begins that of no other
pub frame_only : (f g : RawFrame) (us vs : List ℕ) →
    raw_spelling f ++ us ≡ raw_spelling g ++ vs → f ≡ g
frame_only f g us vs e =
    let kinds : f.kind ≡ g.kind = ap (λ (zs : List ℕ). get_or zs 0 0) e in
    let lengths : length f.payload ≡ length g.payload =
    digits_only (length f.payload) (length g.payload)
    (ap (λ (zs : List ℕ). take 4 (drop 1 zs)) e) in
    let payloads : f.payload ≡ g.payload =
    fronts_same f.payload g.payload us vs lengths (ap (drop 5) e) in
    ap (λ k. record { kind = k; payload = f.payload }) kinds
    ∙ ap (λ p. record { kind = g.kind; payload = p }) payloads

-- a stream of which a frame is one more
pub stream_more : (fs : List RawFrame) (f : RawFrame) → some_frame fs ≡ true →
    stream_of (fs ++ f ∷ []) [] ≡ stream_of fs [] ++ raw_spelling f
stream_more [] f e = absurd (cc)
stream_more (g ∷ gs) f e =
    let front = flat_map raw_spelling (g ∷ gs) in
    ap (λ w. hello ++ w)
    (append-nil (flat_map raw_spelling ((g ∷ gs) ++ f ∷ []))
    ∙ flat_map-append raw_spelling (g ∷ gs) (f ∷ [])
    ∙ ap (λ w. front ++ w) (append-nil (raw_spelling f))
    ∙ ap (λ w. w ++ raw_spelling f) (sym (append-nil front)))
    ∙ sym (append_assoc hello (front ++ []) (raw_spelling f))

-- one that begins with it
pub stream_first : (fs : List RawFrame) (f : RawFrame) → some_frame fs ≡ false →
    stream_of (fs ++ f ∷ []) [] ≡ stream_of fs [] ++ (hello ++ raw_spelling f)
stream_first [] f e =
    ap (λ w. hello ++ w)
    (append-nil (raw_spelling f ++ []) ∙ append-nil (raw_spelling f))
stream_first (g ∷ gs) f e = absurd (cc)

-- frames and one more are some
pub some_more : (fs : List RawFrame) (f : RawFrame) → some_frame (fs ++ f ∷ []) ≡ true
some_more [] f = refl
some_more (g ∷ gs) f = refl

-- where frames and one more begin what frames and others spell, the one is the first of the others
pub next_taken : (fs : List RawFrame) (f : RawFrame) (left : List RawFrame) (later : List ℕ) →
    stream_of (fs ++ f ∷ []) later ≡ stream_of (fs ++ left) [] →
    (more : List RawFrame) × (left ≡ f ∷ more)
next_taken fs f left later e = behind fs left (ap (drop 6) (begun fs left e))
  where
    -- both have a greeting
    begun : (fs left : List RawFrame) →
        stream_of (fs ++ f ∷ []) later ≡ stream_of (fs ++ left) [] →
        hello ++ (flat_map raw_spelling (fs ++ f ∷ []) ++ later)
        ≡ hello ++ (flat_map raw_spelling (fs ++ left) ++ [])
    begun [] [] h = absurd (cc)
    begun [] (g ∷ gs) h = h
    begun (x ∷ xs) gs h = h

    -- behind the frames that both have
    behind : (fs left : List RawFrame) →
        flat_map raw_spelling (fs ++ f ∷ []) ++ later
        ≡ flat_map raw_spelling (fs ++ left) ++ [] →
        (more : List RawFrame) × (left ≡ f ∷ more)
    behind [] [] h = absurd (cc)
    behind [] (g ∷ gs) h =
        let same : f ≡ g = frame_only f g ([] ++ later) (flat_map raw_spelling gs ++ [])
        (sym (append_assoc (raw_spelling f) [] later) ∙ h
        ∙ append_assoc (raw_spelling g) (flat_map raw_spelling gs) []) in
        (gs, ap (λ z. z ∷ gs) (sym same))
    behind (x ∷ xs) gs h = behind xs gs (cut (raw_spelling x) _ _
        (sym (append_assoc (raw_spelling x) (flat_map raw_spelling (xs ++ f ∷ [])) later) ∙ h
        ∙ append_assoc (raw_spelling x) (flat_map raw_spelling (xs ++ gs)) []))
      where
        -- what stands behind the same is the same
        cut : (ws us vs : List ℕ) → ws ++ us ≡ ws ++ vs → us ≡ vs
        cut [] us vs h = h
        cut (w ∷ ws) us vs h = cut ws us vs (ap (drop 1) h)
