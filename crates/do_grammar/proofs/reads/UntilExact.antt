-- Values up to a byte that ends them.
use Rattle.std.proofs.Common.{◌≡◌, ◌≢◌, ℕ, zero, suc, ◌<◌, List, [], ◌∷◌, ◌++◌, length, Ok, Err}
use Rattle.std.proofs.Common.{refl, sym, ap, subst, ◌∙◌, append_assoc, arith, inl, inr}
use Rattle.std.{specs.Prelude.◌⊎◌, proofs.lemmas.List.length-append}
use Rattle.do_grammar.specs.Reader.{short, bad, Reader, until_within, until}
use Rattle.do_grammar.specs.{Grammar.{IsBytes, Begins, Takes}, Forms.{Untils, Apart}}
use Rattle.do_grammar.proofs.reads.ExactReader.{Reads, IsBytes-append, IsBytes-rest}
use Rattle.do_grammar.proofs.reads.ChainAnswers.{Stopped, first, later, bind_ok, bind_err, ok_value}
use Rattle.do_grammar.proofs.reads.{ChainAnswers.ok_rest, UntilSteps.{cases_eq, tail_of, rest_of}}
use Rattle.do_grammar.proofs.reads.UntilSteps.{step_end, step_on, shorter}

-- bytes whose rest is parted again, in three parts
joined_parts : (bytes one rest two last end : List ℕ) → bytes ≡ one ++ rest → rest ≡ two ++ last
    → last ≡ end → bytes ≡ (one ++ two) ++ end
joined_parts bytes one rest two last end p q r =
    p ∙ ap (λ (w : List ℕ). one ++ w) (q ∙ ap (λ (w : List ℕ). two ++ w) r)
    ∙ sym (append_assoc one two end)

module _ {K A : Type 0} (end : ℕ) (end_small : end < 256) (G : List ℕ → A
    → Type 0) (r : Reader K A) (R : Reads G r) (apart : (text : List ℕ) (x : A) → G text x
    → Apart end text) where
  -- values up to the end byte are read, whatever follows
  until_again : (n : ℕ) (text : List ℕ) (xs : List A) (rest : List ℕ) → length (text ++ rest) < n
      → Untils end G text xs → until_within end r n (text ++ rest) ≡ Ok (xs, rest)
  until_again zero text xs rest lt g = absurd (omega arith)
  until_again (suc n) text [] rest lt g =
      ap (λ (w : List ℕ). until_within end r (suc n) (w ++ rest)) g ∙ step_end end r n end rest refl
  until_again (suc n) text (x ∷ xs) rest lt g =
      go (λ len. until_again n g.back xs rest len g.others) g.front
      (apart g.front x g.one) g.one g.parts
    where
      go : (length (g.back ++ rest) < n → until_within end r n (g.back ++ rest) ≡ Ok (xs, rest))
          → (front : List ℕ) → Apart end front → G front x → text ≡ front ++ g.back
          → until_within end r (suc n) (text ++ rest) ≡ Ok (x ∷ xs, rest)
      go others [] a h p = absurd a
      go others (b ∷ front) a h p =
          let whole : text ++ rest ≡ (b ∷ front) ++ (g.back ++ rest) =
          ap (λ (w : List ℕ). w ++ rest) p ∙ append_assoc (b ∷ front) g.back rest in
          let len : length (g.back ++ rest) < n =
          omega (arith, ap length whole ∙ length-append (b ∷ front) (g.back ++ rest)) in
          ap (until_within end r (suc n)) whole ∙ step_on end r n b (front ++ (g.back ++ rest)) a
          ∙ rw (R.reads_spelling (b ∷ front) x (g.back ++ rest) h, others len) refl

  -- their spelling is made of bytes
  until_bytes : (text : List ℕ) (xs : List A) → Untils end G text xs → IsBytes text
  until_bytes text [] g = subst IsBytes (sym g) (end_small, tt)
  until_bytes text (x ∷ xs) g =
      subst IsBytes (sym g.parts)
      (IsBytes-append g.front g.back (R.bytes g.front x g.one) (until_bytes g.back xs g.others))

  -- a value and the others behind it
  one_more : (x : A) (xs : List A) (bytes behind rest : List ℕ) → Takes G bytes x behind
      → Takes (Untils end G) behind xs rest → Takes (Untils end G) bytes (x ∷ xs) rest
  one_more x xs bytes behind rest t u = record {
    text = t.text ++ u.text;
    parts = joined_parts bytes t.text behind u.text rest rest t.parts u.parts refl;
    spelled = record {
      front = t.text;
      back = u.text;
      parts = refl;
      one = t.spelled;
      others = u.spelled;
    };
  }

  -- what is read is spelled so
  until_takes : (n : ℕ) (bytes : List ℕ) (xs : List A) (rest : List ℕ) → length bytes < n
      → IsBytes bytes → until_within end r n bytes ≡ Ok (xs, rest)
      → Takes (Untils end G) bytes xs rest
  until_takes zero bytes xs rest lt small e = absurd (omega arith)
  until_takes (suc n) [] xs rest lt small e = absurd cc
  until_takes (suc n) (b ∷ bytes) xs rest lt small e =
      by_case (λ bs ys rs l s h. until_takes n bs ys rs l s h) (cases_eq b end)
    where
      by_case : ((bs : List ℕ) (ys : List A) (rs : List ℕ) → length bs < n → IsBytes bs
          → until_within end r n bs ≡ Ok (ys, rs) → Takes (Untils end G) bs ys rs)
          → (b ≡ end) ⊎ (b ≢ end) → Takes (Untils end G) (b ∷ bytes) xs rest
      by_case again (inl same) =
          let e' = sym (step_end end r n b bytes same) ∙ e in
          subst (λ (w : List A). Takes (Untils end G) (b ∷ bytes) w rest)
          (ok_value [] xs bytes rest e') (record {
            text = b ∷ [];
            parts = ap (λ (w : List ℕ). b ∷ w) (ok_rest [] xs bytes rest e');
            spelled = ap (λ (w : ℕ). w ∷ []) same;
          })
      by_case again (inr other) =
          let e' = sym (step_on end r n b bytes other) ∙ e in
          let c = bind_ok (r (b ∷ bytes)) (rest_of end r n) (xs, rest) e' in
          let d = bind_ok (until_within end r n c.0.1) (tail_of c.0.0) (xs, rest) c.2 in
          let t = R.sound (b ∷ bytes) c.0.0 c.0.1 small c.1 in
          let u = again c.0.1 d.0.0 d.0.1 (shorter end G apart (b ∷ bytes) c.0.0 c.0.1 n lt t)
          (IsBytes-rest t.text c.0.1 (subst IsBytes t.parts small)) d.1 in
          let last : d.0.1 ≡ rest = ok_rest (c.0.0 ∷ d.0.0) xs d.0.1 rest d.2 in
          subst (λ (w : List A). Takes (Untils end G) (b ∷ bytes) w rest)
          (ok_value (c.0.0 ∷ d.0.0) xs d.0.1 rest d.2)
          (subst (λ (w : List ℕ). Takes (Untils end G) (b ∷ bytes) (c.0.0 ∷ d.0.0) w) last
          (one_more c.0.0 d.0.0 (b ∷ bytes) c.0.1 d.0.1 t u))

  -- what begins one value begins some, and so does what begins others behind it
  begins_one : (front : List ℕ) → Begins G front → Begins (Untils end G) front
  begins_one front b = record {
    more = b.more ++ end ∷ [];
    value = b.value ∷ [];
    spelled = record {
      front = front ++ b.more;
      back = end ∷ [];
      parts = sym (append_assoc front b.more (end ∷ []));
      one = b.spelled;
      others = refl;
    };
  }

  -- what begins others behind a value begins some
  begins_others : (text : List ℕ) (x : A) (front : List ℕ) → G text x → Begins (Untils end G) front
      → Begins (Untils end G) (text ++ front)
  begins_others text x front g b = record {
    more = b.more;
    value = x ∷ b.value;
    spelled = record {
      front = text;
      back = front ++ b.more;
      parts = append_assoc text front b.more;
      one = g;
      others = b.spelled;
    };
  }

  -- some values are spelled
  begins_none : Begins (Untils end G) []
  begins_none = record { more = end ∷ []; value = []; spelled = refl }

  -- where bytes are wanted, some values begin so
  until_ends : (n : ℕ) (bytes : List ℕ) → length bytes < n → IsBytes bytes
      → until_within end r n bytes ≡ Err short → Begins (Untils end G) bytes
  until_ends zero bytes lt small e = absurd (omega arith)
  until_ends (suc n) [] lt small e = begins_none
  until_ends (suc n) (b ∷ bytes) lt small e =
      by_case (λ bs l s h. until_ends n bs l s h) (cases_eq b end)
    where
      by_stop : ((bs : List ℕ) → length bs < n → IsBytes bs → until_within end r n bs ≡ Err short
          → Begins (Untils end G) bs) → Stopped (r (b ∷ bytes)) (rest_of end r n) short
          → Begins (Untils end G) (b ∷ bytes)
      by_stop again (first h) = begins_one (b ∷ bytes) (R.short_is_front (b ∷ bytes) small h)
      by_stop again (later x h h') =
          inner (bind_err (until_within end r n x.1) (tail_of x.0) short h')
        where
          t : Takes G (b ∷ bytes) x.0 x.1
          t = R.sound (b ∷ bytes) x.0 x.1 small h

          inner : Stopped (until_within end r n x.1) (tail_of x.0) short
              → Begins (Untils end G) (b ∷ bytes)
          inner (first i) =
              subst (Begins (Untils end G)) (sym t.parts)
              (begins_others t.text x.0 x.1 t.spelled
              (again x.1 (shorter end G apart (b ∷ bytes) x.0 x.1 n lt t)
              (IsBytes-rest t.text x.1 (subst IsBytes t.parts small)) i))
          inner (later y i j) = absurd cc

      by_case : ((bs : List ℕ) → length bs < n → IsBytes bs → until_within end r n bs ≡ Err short
          → Begins (Untils end G) bs) → (b ≡ end) ⊎ (b ≢ end) → Begins (Untils end G) (b ∷ bytes)
      by_case again (inl same) = let e' = sym (step_end end r n b bytes same) ∙ e in absurd cc
      by_case again (inr other) =
          by_stop again
          (bind_err (r (b ∷ bytes)) (rest_of end r n) short
          (sym (step_on end r n b bytes other) ∙ e))

  record UntilStops (bytes : List ℕ) (k : K) (left : ℕ) : Type 0 where
    front : List ℕ
    byte : ℕ
    rest : List ℕ
    parts : bytes ≡ front ++ byte ∷ rest
    place : left ≡ suc (length rest)
    goes_on : Begins (Untils end G) front
    stays : (m : ℕ) (after : List ℕ) → length (front ++ byte ∷ after) < m
        → until_within end r m (front ++ byte ∷ after) ≡ Err (bad k (suc (length after)))

  -- the byte at which reading fails is the first with which none goes on
  until_stops : (n : ℕ) (bytes : List ℕ) (k : K) (left : ℕ) → length bytes < n → IsBytes bytes
      → until_within end r n bytes ≡ Err (bad k left) → UntilStops bytes k left
  until_stops zero bytes k left lt small e = absurd (omega arith)
  until_stops (suc n) [] k left lt small e = absurd cc
  until_stops (suc n) (b ∷ bytes) k left lt small e =
      by_case (λ bs l s h. until_stops n bs k left l s h) (cases_eq b end)
    where
      -- the value that is read itself stops
      one_stays : (front : List ℕ) (byte : ℕ) → b ≢ end → (rest : List ℕ)
          → b ∷ bytes ≡ front ++ byte ∷ rest
          → ((after : List ℕ) → r (front ++ byte ∷ after) ≡ Err (bad k (suc (length after))))
          → (m : ℕ) (after : List ℕ) → length (front ++ byte ∷ after) < m
          → until_within end r m (front ++ byte ∷ after) ≡ Err (bad k (suc (length after)))
      one_stays front byte other rest parts stays zero after l = absurd (omega arith)
      one_stays [] byte other rest parts stays (suc m) after l =
          let same : b ≡ byte = cc in
          let ne : byte ≢ end = λ (q : byte ≡ end). other (same ∙ q) in
          step_on end r m byte after ne ∙ rw (stays after) refl
      one_stays (c ∷ front) byte other rest parts stays (suc m) after l =
          let same : b ≡ c = cc in
          let ne : c ≢ end = λ (q : c ≡ end). other (same ∙ q) in
          step_on end r m c (front ++ byte ∷ after) ne ∙ rw (stays after) refl

      -- a value behind it does
      others_stay : (x : A) (text : List ℕ) → Apart end text → G text x
          → (front : List ℕ) (byte : ℕ)
          → ((m : ℕ) (after : List ℕ) → length (front ++ byte ∷ after) < m
          → until_within end r m (front ++ byte ∷ after) ≡ Err (bad k (suc (length after))))
          → (m : ℕ) (after : List ℕ) → length ((text ++ front) ++ byte ∷ after) < m
          → until_within end r m ((text ++ front) ++ byte ∷ after)
          ≡ Err (bad k (suc (length after)))
      others_stay x [] a g front byte stays m after l = absurd a
      others_stay x (c ∷ text) a g front byte stays zero after l = absurd (omega arith)
      others_stay x (c ∷ text) a g front byte stays (suc m) after l =
          let whole : ((c ∷ text) ++ front) ++ byte ∷ after
          ≡ (c ∷ text) ++ (front ++ byte ∷ after) =
          append_assoc (c ∷ text) front (byte ∷ after) in
          let len : length (front ++ byte ∷ after) < m =
          omega (arith, ap length whole ∙ length-append (c ∷ text) (front ++ byte ∷ after)) in
          ap (until_within end r (suc m)) whole
          ∙ step_on end r m c (text ++ (front ++ byte ∷ after)) a
          ∙ rw (R.reads_spelling (c ∷ text) x (front ++ byte ∷ after) g, stays m after len) refl

      by_stop : b ≢ end
          → ((bs : List ℕ) → length bs < n → IsBytes bs → until_within end r n bs ≡ Err (bad k left)
          → UntilStops bs k left) → Stopped (r (b ∷ bytes)) (rest_of end r n) (bad k left)
          → UntilStops (b ∷ bytes) k left
      by_stop other again (first h) =
          let s = R.bad_is_first (b ∷ bytes) k left small h in
          record {
            front = s.front;
            byte = s.byte;
            rest = s.rest;
            parts = s.parts;
            place = s.place;
            goes_on = begins_one s.front s.goes_on;
            stays = one_stays s.front s.byte other s.rest s.parts s.stays;
          }
      by_stop other again (later x h h') =
          inner (bind_err (until_within end r n x.1) (tail_of x.0) (bad k left) h')
        where
          t : Takes G (b ∷ bytes) x.0 x.1
          t = R.sound (b ∷ bytes) x.0 x.1 small h

          inner : Stopped (until_within end r n x.1) (tail_of x.0) (bad k left)
              → UntilStops (b ∷ bytes) k left
          inner (first i) =
              let s = again x.1 (shorter end G apart (b ∷ bytes) x.0 x.1 n lt t)
              (IsBytes-rest t.text x.1 (subst IsBytes t.parts small)) i in
              record {
                front = t.text ++ s.front;
                byte = s.byte;
                rest = s.rest;
                parts = joined_parts (b ∷ bytes) t.text x.1 s.front (s.byte ∷ s.rest)
                    (s.byte ∷ s.rest) t.parts s.parts refl;
                place = s.place;
                goes_on = begins_others t.text x.0 s.front t.spelled s.goes_on;
                stays = others_stay x.0 t.text (apart t.text x.0 t.spelled) t.spelled s.front s.byte
                    s.stays;
              }
          inner (later y i j) = absurd cc

      by_case : ((bs : List ℕ) → length bs < n → IsBytes bs
          → until_within end r n bs ≡ Err (bad k left) → UntilStops bs k left)
          → (b ≡ end) ⊎ (b ≢ end) → UntilStops (b ∷ bytes) k left
      by_case again (inl same) = let e' = sym (step_end end r n b bytes same) ∙ e in absurd cc
      by_case again (inr other) =
          by_stop other again
          (bind_err (r (b ∷ bytes)) (rest_of end r n) (bad k left)
          (sym (step_on end r n b bytes other) ∙ e))

  -- values up to an end byte, with which none of them begins, are read exactly
  pub Reads-until : Reads (Untils end G) (until end r)
  unfolding until
  Reads-until = record {
    bytes = until_bytes;
    has_spelling = begins_none;
    reads_spelling =
        λ text xs rest g. until_again (suc (length (text ++ rest))) text xs rest (omega arith) g;
    sound = λ bytes xs rest small e.
        until_takes (suc (length bytes)) bytes xs rest (omega arith) small e;
    short_is_front = λ bytes small e. until_ends (suc (length bytes)) bytes (omega arith) small e;
    bad_is_first = λ bytes k left small e.
        let s = until_stops (suc (length bytes)) bytes k left (omega arith) small e in
        record {
          front = s.front;
          byte = s.byte;
          rest = s.rest;
          parts = s.parts;
          place = s.place;
          goes_on = s.goes_on;
          stays = λ after. s.stays (suc (length (s.front ++ s.byte ∷ after))) after (omega arith);
        };
  }
