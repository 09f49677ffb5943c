-- Readers that read a grammar exactly: nothing, one after the other, one byte.
use Rattle.std.proofs.Common.{◌≡◌, ℕ, suc, Bool, List, [], ◌∷◌, ◌++◌, length, Result, Ok, Err, refl}
use Rattle.std.proofs.Common.{sym, ap, subst, ◌∙◌, append_assoc}
use Rattle.do_grammar.specs.Reader.{Stop, short, bad, Reader, ◌>>=◌, done, and_then, byte_of}
use Rattle.do_grammar.specs.{Grammar.{IsBytes, Begins, Takes}, Forms.{Done, Then, Byte, Passes}}
use Rattle.do_grammar.proofs.reads.ChainAnswers.{bind_ok, ok_value, ok_rest, Stopped, first, later}
use Rattle.do_grammar.proofs.reads.ChainAnswers.{bind_err, guard_ok, guard_err}

-- what reading that stops at a byte tells, whatever it gives else
pub record StopsAt {K A C : Type 0} (G : List ℕ → A → Type 0) (r : List ℕ
    → Result C (Stop K)) (bytes : List ℕ) (k : K) (left : ℕ) : Type 0 where
  pub front : List ℕ
  pub byte : ℕ
  pub rest : List ℕ
  pub parts : bytes ≡ front ++ byte ∷ rest
  pub place : left ≡ suc (length rest)
  pub goes_on : Begins G front
  pub stays : (after : List ℕ) → r (front ++ byte ∷ after) ≡ Err (bad k (suc (length after)))

-- what is spelled is read whatever stands behind it, and what is read, or stops, tells what is
-- spelled
pub record Reads {K A : Type 0} (G : List ℕ → A → Type 0) (r : Reader K A) : Type 0 where
  pub bytes : (text : List ℕ) (x : A) → G text x → IsBytes text
  pub has_spelling : Begins G []
  pub reads_spelling : (text : List ℕ) (x : A) (rest : List ℕ) → G text x
      → r (text ++ rest) ≡ Ok (x, rest)
  pub sound : (bytes : List ℕ) (x : A) (rest : List ℕ) → IsBytes bytes → r bytes ≡ Ok (x, rest)
      → Takes G bytes x rest
  pub short_is_front : (bytes : List ℕ) → IsBytes bytes → r bytes ≡ Err short → Begins G bytes
  pub bad_is_first : (bytes : List ℕ) (k : K) (left : ℕ) → IsBytes bytes
      → r bytes ≡ Err (bad k left) → StopsAt G r bytes k left

-- bytes behind bytes are bytes
pub IsBytes-append : (a b : List ℕ) → IsBytes a → IsBytes b → IsBytes (a ++ b)
IsBytes-append [] b p q = q
IsBytes-append (x ∷ a) b p q = (p.0, IsBytes-append a b p.1 q)

-- the rest of bytes are bytes
pub IsBytes-rest : (a b : List ℕ) → IsBytes (a ++ b) → IsBytes b
IsBytes-rest [] b p = p
IsBytes-rest (x ∷ a) b p = IsBytes-rest a b p.1

-- ---- nothing

-- a value that takes no byte is read exactly
pub Reads-done : {K A : Type 0} (x : A) → Reads {K = K} (Done x) (done x)
Reads-done x = record {
  bytes = λ text y g. subst IsBytes (sym g.nothing) tt;
  has_spelling = record { more = []; value = x; spelled = record { nothing = refl; same = refl } };
  reads_spelling = λ text y rest g. rw (g.nothing, g.same) refl;
  sound = λ bytes y rest b e. record {
    text = [];
    parts = ok_rest x y bytes rest e;
    spelled = record { nothing = refl; same = ok_value x y bytes rest e };
  };
  short_is_front = λ bytes b e. absurd cc;
  bad_is_first = λ bytes k left b e. absurd cc;
}

-- ---- one after the other

-- where reading ends too early the bytes begin a spelling, and where it stops at a byte no spelling
-- goes on with it
pub record StopsBy {K B C : Type 0} (H : List ℕ → B → Type 0) (f : List ℕ
    → Result C (Stop K)) : Type 0 where
  pub has_spelling : Begins H []
  pub short_is_front : (bytes : List ℕ) → IsBytes bytes → f bytes ≡ Err short → Begins H bytes
  pub bad_is_first : (bytes : List ℕ) (k : K) (left : ℕ) → IsBytes bytes
      → f bytes ≡ Err (bad k left) → StopsAt H f bytes k left

-- a reader, and behind it what reads the rest or all of it
module _ {K A B C : Type 0} (G : List ℕ → A → Type 0) (H : A → List ℕ → B
    → Type 0) (r : Reader K A) (f : A → List ℕ
    → Result C (Stop K)) (R : Reads G r) (S : (x : A) (text : List ℕ) → G text x
    → StopsBy (H x) (f x)) where
  abbrev chained : List ℕ → Result C (Stop K)
  chained bytes = r bytes >>= λ x. f x.0 x.1

  -- what begins a spelling of the first begins one of both
  chain_begins : (front : List ℕ) → Begins G front → Begins (Then G H) front
  chain_begins front b =
      let l = (S b.value (front ++ b.more) b.spelled).has_spelling in
      record {
        more = b.more ++ l.more;
        value = l.value;
        spelled = record {
          value = b.value;
          front = front ++ b.more;
          back = l.more;
          parts = sym (append_assoc front b.more l.more);
          first = b.spelled;
          second = l.spelled;
        };
      }

  -- what begins a spelling of the second, behind one of the first
  chain_begins_later : (text : List ℕ) (x : A) (front : List ℕ) → G text x → Begins (H x) front
      → Begins (Then G H) (text ++ front)
  chain_begins_later text x front g b =
      record {
        more = b.more;
        value = b.value;
        spelled = record {
          value = x;
          front = text;
          back = front ++ b.more;
          parts = append_assoc text front b.more;
          first = g;
          second = b.spelled;
        };
      }

  -- where a chain wants more bytes, some spelling of both begins so
  chain_ends : (bytes : List ℕ) → IsBytes bytes → chained bytes ≡ Err short
      → Begins (Then G H) bytes
  chain_ends bytes b e = go (bind_err (r bytes) (λ x. f x.0 x.1) short e)
    where
      go : Stopped (r bytes) (λ x. f x.0 x.1) short → Begins (Then G H) bytes
      go (first h) = chain_begins bytes (R.short_is_front bytes b h)
      go (later x h h') =
          let t = R.sound bytes x.0 x.1 b h in
          subst (Begins (Then G H)) (sym t.parts)
          (chain_begins_later t.text x.0 x.1 t.spelled
          ((S x.0 t.text t.spelled).short_is_front x.1
          (IsBytes-rest t.text x.1 (subst IsBytes t.parts b)) h'))

  -- the byte at which a chain fails is the first with which none goes on
  chain_stops : (bytes : List ℕ) (k : K) (left : ℕ) → IsBytes bytes
      → chained bytes ≡ Err (bad k left) → StopsAt (Then G H) chained bytes k left
  chain_stops bytes k left b e = go (bind_err (r bytes) (λ x. f x.0 x.1) (bad k left) e)
    where
      go : Stopped (r bytes) (λ x. f x.0 x.1) (bad k left) → StopsAt (Then G H) chained bytes k left
      go (first h) =
          let s = R.bad_is_first bytes k left b h in
          record {
            front = s.front;
            byte = s.byte;
            rest = s.rest;
            parts = s.parts;
            place = s.place;
            goes_on = chain_begins s.front s.goes_on;
            stays = λ after. rw (s.stays after) refl;
          }
      go (later x h h') =
          let t = R.sound bytes x.0 x.1 b h in
          let s = (S x.0 t.text t.spelled).bad_is_first x.1 k left
          (IsBytes-rest t.text x.1 (subst IsBytes t.parts b)) h' in
          record {
            front = t.text ++ s.front;
            byte = s.byte;
            rest = s.rest;
            parts = t.parts ∙ ap (λ (w : List ℕ). t.text ++ w) s.parts
                ∙ sym (append_assoc t.text s.front (s.byte ∷ s.rest));
            place = s.place;
            goes_on = chain_begins_later t.text x.0 s.front t.spelled s.goes_on;
            stays = λ after. ap chained (append_assoc t.text s.front (s.byte ∷ after))
                ∙ rw (R.reads_spelling t.text x.0 (s.front ++ s.byte ∷ after) t.spelled)
                (s.stays after);
          }

  -- a chain stops as its grammar wants
  pub StopsBy-chain : StopsBy (Then G H) chained
  StopsBy-chain = record {
    has_spelling = chain_begins [] R.has_spelling;
    short_is_front = chain_ends;
    bad_is_first = chain_stops;
  }

module _ {K A B : Type 0} (G : List ℕ → A → Type 0) (H : A → List ℕ → B
    → Type 0) (r : Reader K A) (f : A → Reader K B) (R : Reads G r) (S : (x : A) (text : List ℕ)
    → G text x → Reads (H x) (f x)) where
  -- spellings of both are made of bytes
  then_bytes : (text : List ℕ) (y : B) → Then G H text y → IsBytes text
  then_bytes text y g =
      subst IsBytes (sym g.parts)
      (IsBytes-append g.front g.back (R.bytes g.front g.value g.first)
      ((S g.value g.front g.first).bytes g.back y g.second))

  -- a spelling of both is read, whatever follows
  then_again : (text : List ℕ) (y : B) (rest : List ℕ) → Then G H text y
      → and_then r f (text ++ rest) ≡ Ok (y, rest)
  then_again text y rest g =
      let regrouped : text ++ rest ≡ g.front ++ (g.back ++ rest) =
      ap (λ (t : List ℕ). t ++ rest) g.parts ∙ append_assoc g.front g.back rest in
      ap (and_then r f) regrouped
      ∙ rw (R.reads_spelling g.front g.value (g.back ++ rest) g.first)
      ((S g.value g.front g.first).reads_spelling g.back y rest g.second)

  -- what a chain reads is spelled so
  then_takes : (bytes : List ℕ) (y : B) (rest : List ℕ) → IsBytes bytes
      → and_then r f bytes ≡ Ok (y, rest) → Takes (Then G H) bytes y rest
  then_takes bytes y rest b e =
      let c = bind_ok (r bytes) (λ x. f x.0 x.1) (y, rest) e in
      let t = R.sound bytes c.0.0 c.0.1 b c.1 in
      let u = (S c.0.0 t.text t.spelled).sound c.0.1 y rest
      (IsBytes-rest t.text c.0.1 (subst IsBytes t.parts b)) c.2 in
      record {
        text = t.text ++ u.text;
        parts = t.parts ∙ ap (λ (x : List ℕ). t.text ++ x) u.parts
            ∙ sym (append_assoc t.text u.text rest);
        spelled = record {
          value = c.0.0;
          front = t.text;
          back = u.text;
          parts = refl;
          first = t.spelled;
          second = u.spelled;
        };
      }

  -- one reader after the other stops as its grammar wants
  then_early : StopsBy (Then G H) (and_then r f)
  then_early = StopsBy-chain G H r f R (λ x text g. let s = S x text g in record {
    has_spelling = s.has_spelling;
    short_is_front = s.short_is_front;
    bad_is_first = s.bad_is_first;
  })

  -- an exact reader, and then the exact one that its value chooses, read exactly
  pub Reads-then : Reads (Then G H) (and_then r f)
  Reads-then = record {
    bytes = then_bytes;
    has_spelling = then_early.has_spelling;
    reads_spelling = then_again;
    sound = then_takes;
    short_is_front = then_early.short_is_front;
    bad_is_first = then_early.bad_is_first;
  }

-- ---- one byte

-- one byte that passes a test, where some byte does, is read exactly
pub Reads-byte : {K : Type 0} (ok : ℕ → Bool) (why : ℕ → K) → Passes ok
    → Reads (Byte ok) (byte_of ok why)
Reads-byte {K = K} ok why some = record {
  bytes = λ text b g. subst IsBytes (sym g.alone) (g.small, tt);
  has_spelling = begins;
  reads_spelling = λ text b rest g. rw g.alone (rw g.passes refl);
  sound = takes;
  short_is_front = ends;
  bad_is_first = stops;
}
  where
    begins : Begins (Byte ok) []
    begins = record {
      more = some.byte ∷ [];
      value = some.byte;
      spelled = record { alone = refl; passes = some.passes; small = some.small };
    }

    takes : (bytes : List ℕ) (x : ℕ) (rest : List ℕ) → IsBytes bytes
        → byte_of ok why bytes ≡ Ok (x, rest) → Takes (Byte ok) bytes x rest
    takes [] x rest h e = absurd cc
    takes (b ∷ bytes) x rest h e =
        let c = guard_ok (ok b) (bad (why b) (suc (length bytes))) (b, bytes) (x, rest) e in
        let same : b ≡ x = ap (λ (w : ℕ × List ℕ). w.0) c.1 in
        record {
          text = b ∷ [];
          parts = ap (λ (w : ℕ × List ℕ). b ∷ w.1) c.1;
          spelled = record {
            alone = ap (λ (w : ℕ). w ∷ []) same;
            passes = rw (← same) c.0;
            small = rw (← same) h.0;
          };
        }

    ends : (bytes : List ℕ) → IsBytes bytes → byte_of ok why bytes ≡ Err short
        → Begins (Byte ok) bytes
    ends [] h e = begins
    ends (b ∷ bytes) h e =
        let c = guard_err (ok b) (bad (why b) (suc (length bytes))) short (b, bytes) e in
        absurd cc

    stops : (bytes : List ℕ) (k : K) (left : ℕ) → IsBytes bytes
        → byte_of ok why bytes ≡ Err (bad k left) → StopsAt (Byte ok) (byte_of ok why) bytes k left
    stops [] k left h e = absurd cc
    stops (b ∷ bytes) k left h e =
        let c = guard_err (ok b) (bad (why b) (suc (length bytes))) (bad k left) (b, bytes) e in
        let kind : k ≡ why b = cc in
        record {
          front = [];
          byte = b;
          rest = bytes;
          parts = refl;
          place = cc;
          goes_on = begins;
          stays = λ after. rw (c.0, kind) refl;
        }

-- ---- the same reader, the same grammar

-- what begins a spelling of one grammar begins one of another that has its spellings
pub Begins-as : {A : Type 0} (G H : List ℕ → A → Type 0)
    → ((text : List ℕ) (x : A) → G text x → H text x) → (front : List ℕ) → Begins G front
    → Begins H front
Begins-as G H there front b = record {
  more = b.more;
  value = b.value;
  spelled = there (front ++ b.more) b.value b.spelled;
}

-- the same reader stops at the same byte under other names
pub StopsAt-as : {K A C : Type 0} (G H : List ℕ → A → Type 0) (r s : List ℕ → Result C (Stop K))
    → ((text : List ℕ) (x : A) → G text x → H text x) → ((bytes : List ℕ) → r bytes ≡ s bytes)
    → (bytes : List ℕ) (k : K) (left : ℕ) → StopsAt G r bytes k left → StopsAt H s bytes k left
StopsAt-as G H r s there same bytes k left t = record {
  front = t.front;
  byte = t.byte;
  rest = t.rest;
  parts = t.parts;
  place = t.place;
  goes_on = Begins-as G H there t.front t.goes_on;
  stays = λ after. sym (same (t.front ++ t.byte ∷ after)) ∙ t.stays after;
}

-- the same reader of the same grammar under other names
pub Reads-as : {K A : Type 0} (G H : List ℕ → A → Type 0) (r s : Reader K A)
    → ((text : List ℕ) (x : A) → G text x → H text x)
    → ((text : List ℕ) (x : A) → H text x → G text x) → ((bytes : List ℕ) → r bytes ≡ s bytes)
    → Reads G r → Reads H s
Reads-as G H r s there back same R = record {
  bytes = λ text x h. R.bytes text x (back text x h);
  has_spelling = Begins-as G H there [] R.has_spelling;
  reads_spelling = λ text x rest h. sym (same (text ++ rest))
      ∙ R.reads_spelling text x rest (back text x h);
  sound = λ bytes x rest b e. let t = R.sound bytes x rest b (same bytes ∙ e) in record {
    text = t.text;
    parts = t.parts;
    spelled = there t.text x t.spelled;
  };
  short_is_front = λ bytes b e.
      Begins-as G H there bytes (R.short_is_front bytes b (same bytes ∙ e));
  bad_is_first = λ bytes k left b e.
      StopsAt-as G H r s there same bytes k left (R.bad_is_first bytes k left b (same bytes ∙ e));
}
