-- Bytes that lead from state to state and may end, and what comes behind, are read exactly.
use Rattle.std.proofs.Common.{◌≡◌, ℕ, suc, ◌<◌, List, [], ◌∷◌, ◌++◌, length, Option, Some, None, Ok}
use Rattle.std.proofs.Common.{Err, refl, ap}
use Rattle.do_grammar.specs.Reader.{short, bad, Whole, accepted, Step, goes, leaves, fails, by_step}
use Rattle.do_grammar.specs.{Grammar.{IsBytes, Begins}, Forms.OnStep}
use Rattle.do_grammar.proofs.reads.WholeExact.{StopsWhole, ReadsWhole}
use Rattle.do_sig.specs.reading.Ending.{scan_all, ScansAll}

-- the first of two lists that are the same
cons_head : (a b : ℕ) (xs ys : List ℕ) → a ∷ xs ≡ b ∷ ys → a ≡ b
cons_head a b xs ys e = cc

module _ {S K A : Type 0} (step : S → ℕ → Step S K) (accept : S → Option A) (H : S → List ℕ → A
    → Type 0) (f : S → Whole K A) (live : (s : S)
    → Begins (ScansAll step accept H s) []) (behind : (s : S) (b : ℕ) → step s b ≡ leaves
    → ReadsWhole (H s) (f s)) where
  -- what is spelled are bytes
  all_bytes : (text : List ℕ) (s : S) (x : A) → ScansAll step accept H s text x → IsBytes text
  all_bytes [] s x g = tt
  all_bytes (b ∷ text) s x g = (g.0, on (λ u h. all_bytes text u x h) (step s b) refl g.1)
    where
      on : ((u : S) → ScansAll step accept H u text x → IsBytes text) → (t : Step S K)
          → step s b ≡ t → OnStep t (λ u. ScansAll step accept H u text x) (H s (b ∷ text) x)
          → IsBytes text
      on again (goes u) e h = again u h
      on again leaves e h = ((behind s b e).bytes (b ∷ text) x h).1
      on again (fails k) e h = absurd h

  -- what is spelled is read
  all_again : (text : List ℕ) (s : S) (x : A) → ScansAll step accept H s text x
      → scan_all step accept f s text ≡ Ok x
  all_again [] s x g = rw g refl
  all_again (b ∷ text) s x g = on (λ u h. all_again text u x h) (step s b) refl g.1
    where
      on : ((u : S) → ScansAll step accept H u text x → scan_all step accept f u text ≡ Ok x)
          → (t : Step S K) → step s b ≡ t
          → OnStep t (λ u. ScansAll step accept H u text x) (H s (b ∷ text) x)
          → by_step t (λ u. scan_all step accept f u text) (f s (b ∷ text))
          (λ k. Err (bad k (suc (length text)))) ≡ Ok x
      on again (goes u) e h = again u h
      on again leaves e h = (behind s b e).reads_spelling (b ∷ text) x h
      on again (fails k) e h = absurd h

  -- what is read is spelled
  all_takes : (bytes : List ℕ) (s : S) (x : A) → IsBytes bytes
      → scan_all step accept f s bytes ≡ Ok x → ScansAll step accept H s bytes x
  all_takes [] s x small e = on (accept s) e
    where
      on : (o : Option A) → accepted {K = K} o ≡ Ok x → o ≡ Some x
      on None h = absurd cc
      on (Some y) h = cc
  all_takes (b ∷ bytes) s x small e =
      (small.0, on (λ u h. all_takes bytes u x small.1 h) (step s b) refl e)
    where
      on : ((u : S) → scan_all step accept f u bytes ≡ Ok x → ScansAll step accept H u bytes x)
          → (t : Step S K) → step s b ≡ t
          → by_step t (λ u. scan_all step accept f u bytes) (f s (b ∷ bytes))
          (λ k. Err (bad k (suc (length bytes)))) ≡ Ok x
          → OnStep t (λ u. ScansAll step accept H u bytes x) (H s (b ∷ bytes) x)
      on again (goes u) h h' = again u h'
      on again leaves h h' = (behind s b h).sound (b ∷ bytes) x small h'
      on again (fails k) h h' = absurd cc

  -- a byte that leads on begins a spelling where the rest does
  all_begins : (b : ℕ) (s t : S) (front : List ℕ) → b < 256 → step s b ≡ goes t
      → Begins (ScansAll step accept H t) front → Begins (ScansAll step accept H s) (b ∷ front)
  all_begins b s t front small e h = record {
    more = h.more;
    value = h.value;
    spelled =
        (small, rw e h.spelled);
  }

  -- so does one that leads to what comes behind
  all_begins_behind : (b : ℕ) (s : S) (front : List ℕ) → b < 256 → step s b ≡ leaves
      → Begins (H s) (b ∷ front) → Begins (ScansAll step accept H s) (b ∷ front)
  all_begins_behind b s front small e h = record {
    more = h.more;
    value = h.value;
    spelled =
        (small, rw e h.spelled);
  }

  -- where the bytes end too early they begin a spelling
  all_ends : (bytes : List ℕ) (s : S) → IsBytes bytes → scan_all step accept f s bytes ≡ Err short
      → Begins (ScansAll step accept H s) bytes
  all_ends [] s small e = live s
  all_ends (b ∷ bytes) s small e = on (λ u h. all_ends bytes u small.1 h) (step s b) refl e
    where
      on : ((u : S) → scan_all step accept f u bytes ≡ Err short
          → Begins (ScansAll step accept H u) bytes) → (t : Step S K) → step s b ≡ t
          → by_step t (λ u. scan_all step accept f u bytes) (f s (b ∷ bytes))
          (λ k. Err (bad k (suc (length bytes)))) ≡ Err short
          → Begins (ScansAll step accept H s) (b ∷ bytes)
      on again (goes u) h h' = all_begins b s u bytes small.0 h (again u h')
      on again leaves h h' =
          all_begins_behind b s bytes small.0 h ((behind s b h).short_is_front (b ∷ bytes) small h')
      on again (fails k) h h' = absurd cc

  -- where reading stops at a byte none goes on with it
  all_stops : (bytes : List ℕ) (s : S) (k : K) (left : ℕ) → IsBytes bytes
      → scan_all step accept f s bytes ≡ Err (bad k left)
      → StopsWhole (ScansAll step accept H s) (scan_all step accept f s) bytes k left
  all_stops [] s k left small e = on (accept s) e
    where
      on : (o : Option A) → accepted o ≡ Err (bad k left)
          → StopsWhole (ScansAll step accept H s) (scan_all step accept f s) [] k left
      on None h = absurd cc
      on (Some y) h = absurd cc
  all_stops (b ∷ bytes) s k left small e =
      on (λ u h. all_stops bytes u k left small.1 h) (step s b) refl e
    where
      behind_stops : step s b ≡ leaves → (front : List ℕ) (byte : ℕ) (rest : List ℕ)
          → b ∷ bytes ≡ front ++ byte ∷ rest → left ≡ suc (length rest) → Begins (H s) front
          → ((after : List ℕ) → f s (front ++ byte ∷ after) ≡ Err (bad k (suc (length after))))
          → StopsWhole (ScansAll step accept H s) (scan_all step accept f s) (b ∷ bytes) k
          left
      behind_stops h [] byte rest parts place on stays =
          let same = cons_head b byte bytes rest parts in
          record {
            front = [];
            byte = byte;
            rest = rest;
            parts = parts;
            place = place;
            goes_on =
                live s;
            stays = λ after. rw (← same) (rw h (rw same (stays after)));
          }
      behind_stops h (c ∷ front) byte rest parts place on stays =
          let same = cons_head b c bytes (front ++ byte ∷ rest) parts in
          record {
            front = c ∷ front;
            byte = byte;
            rest = rest;
            parts = parts;
            place =
                place;
            goes_on =
                rw (← same) (all_begins_behind b s front small.0 h (rw same on));
            stays =
                λ after. rw (← same) (rw h (rw same (stays after)));
          }

      on : ((u : S) → scan_all step accept f u bytes ≡ Err (bad k left)
          → StopsWhole (ScansAll step accept H u) (scan_all step accept f u) bytes k left)
          → (t : Step S K) → step s b ≡ t
          → by_step t (λ u. scan_all step accept f u bytes) (f s (b ∷ bytes))
          (λ j. Err (bad j (suc (length bytes)))) ≡ Err (bad k left)
          → StopsWhole (ScansAll step accept H s) (scan_all step accept f s) (b ∷ bytes) k
          left
      on again (goes u) h h' =
          let t = again u h' in
          record {
            front = b ∷ t.front;
            byte = t.byte;
            rest = t.rest;
            parts =
                ap (λ (w : List ℕ). b ∷ w) t.parts;
            place = t.place;
            goes_on =
                all_begins b s u t.front small.0 h t.goes_on;
            stays =
                λ after. rw h (t.stays after);
          }
      on again leaves h h' = let t =
          (behind s b h).bad_is_first (b ∷ bytes) k left small h' in behind_stops h t.front t.byte
          t.rest t.parts t.place t.goes_on t.stays
      on again (fails j) h h' = let kind : j ≡ k = cc in record {
        front = [];
        byte = b;
        rest =
            bytes;
        parts = refl;
        place = cc;
        goes_on = live s;
        stays = λ after. rw (h, kind) refl;
      }

  -- a scan that may end is read exactly
  pub Reads-scan_all : (s : S) → ReadsWhole (ScansAll step accept H s) (scan_all step accept f s)
  Reads-scan_all s = record {
    bytes = λ text x g. all_bytes text s x g;
    has_spelling = live s;
    reads_spelling = λ text x g. all_again text s x g;
    sound = λ bytes x small e. all_takes bytes s x small e;
    short_is_front = λ bytes small e. all_ends bytes s small e;
    bad_is_first = λ bytes k left small e. all_stops bytes s k left small e;
  }
