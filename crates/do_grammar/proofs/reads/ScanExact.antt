-- Bytes that lead from state to state as long as they do, and what comes behind.
use Rattle.std.proofs.Common.{◌≡◌, ℕ, suc, ◌<◌, List, [], ◌∷◌, ◌++◌, length, Ok, Err, refl, ap}
use Rattle.do_grammar.specs.Reader.{short, bad, Reader, ◌>>=◌, and_then, Step, goes, leaves, fails}
use Rattle.do_grammar.specs.{Reader.{by_step, scan, scan_to}, Grammar.{IsBytes, Begins, Takes}}
use Rattle.do_grammar.specs.Forms.{OnStep, Scans}
use Rattle.do_grammar.proofs.reads.ExactReader.{Reads, StopsAt, Reads-as}

-- equal lists have equal heads
cons_head : (a b : ℕ) (xs ys : List ℕ) → a ∷ xs ≡ b ∷ ys → a ≡ b
cons_head a b xs ys e = cc

module _ {S K A : Type 0} (step : S → ℕ → Step S K) (H : S → List ℕ → A → Type 0) (f : S
    → Reader K A) (Good : S → Type 0) (stays_good : (s : S) (b : ℕ) (t : S) → Good s
    → step s b ≡ goes t → Good t) (live : (s : S) → Good s
    → Begins (Scans step H s) []) (behind : (s : S) (b : ℕ) → Good s → step s b ≡ leaves
    → Reads (H s) (f s)) (solid : (s : S) (x : A) → H s [] x → ⊥) where
  -- what is scanned is made of bytes
  scan_bytes : (text : List ℕ) (s : S) (x : A) → Good s → Scans step H s text x → IsBytes text
  scan_bytes [] s x good g = tt
  scan_bytes (b ∷ text) s x good g =
      (g.0, on (λ u h e. scan_bytes text u x (stays_good s b u good e) h) (step s b) refl g.1)
    where
      on : ((u : S) → Scans step H u text x → step s b ≡ goes u → IsBytes text) → (t : Step S K)
          → step s b ≡ t → OnStep t (λ u. Scans step H u text x) (H s (b ∷ text) x) → IsBytes text
      on again (goes u) e h = again u h e
      on again leaves e h = ((behind s b good e).bytes (b ∷ text) x h).1
      on again (fails k) e h = absurd h

  -- the scan gives the value of each text of its grammar, whatever follows
  scan_again : (text : List ℕ) (s : S) (x : A) (rest : List ℕ) → Good s → Scans step H s text x
      → scan step f s (text ++ rest) ≡ Ok (x, rest)
  scan_again [] s x rest good g = absurd g
  scan_again (b ∷ text) s x rest good g =
      on (λ u h e. scan_again text u x rest (stays_good s b u good e) h) (step s b) refl g.1
    where
      on : ((u : S) → Scans step H u text x → step s b ≡ goes u
          → scan step f u (text ++ rest) ≡ Ok (x, rest)) → (t : Step S K) → step s b ≡ t
          → OnStep t (λ u. Scans step H u text x) (H s (b ∷ text) x)
          → by_step t (λ u. scan step f u (text ++ rest)) (f s (b ∷ (text ++ rest))) (λ k.
          Err (bad k (suc (length (text ++ rest))))) ≡ Ok (x, rest)
      on again (goes u) e h = again u h e
      on again leaves e h = (behind s b good e).reads_spelling (b ∷ text) x rest h
      on again (fails k) e h = absurd h

  -- what it gives a value of begins with a text of the grammar
  scan_takes : (bytes : List ℕ) (s : S) (x : A) (rest : List ℕ) → Good s → IsBytes bytes
      → scan step f s bytes ≡ Ok (x, rest) → Takes (Scans step H s) bytes x rest
  scan_takes [] s x rest good small e = absurd cc
  scan_takes (b ∷ bytes) s x rest good small e =
      on (λ u h h'. scan_takes bytes u x rest (stays_good s b u good h) small.1 h')
      (step s b) refl e
    where
      head : (text : List ℕ) → b ∷ bytes ≡ text ++ rest → H s text x → step s b ≡ leaves
          → Scans step H s text x
      head [] p g h = absurd (solid s x g)
      head (c ∷ text) p g h =
          let same = cons_head b c bytes (text ++ rest) p in
          rw (← same) (small.0, rw h (rw same g))

      on : ((u : S) → step s b ≡ goes u → scan step f u bytes ≡ Ok (x, rest)
          → Takes (Scans step H u) bytes x rest) → (t : Step S K) → step s b ≡ t
          → by_step t (λ u. scan step f u bytes) (f s (b ∷ bytes)) (λ k.
          Err (bad k (suc (length bytes)))) ≡ Ok (x, rest)
          → Takes (Scans step H s) (b ∷ bytes) x rest
      on again (goes u) h h' =
          let t = again u h h' in
          record {
            text = b ∷ t.text;
            parts = ap (λ (w : List ℕ). b ∷ w) t.parts;
            spelled = (small.0, rw h t.spelled);
          }
      on again leaves h h' =
          let t = (behind s b good h).sound (b ∷ bytes) x rest small h' in
          record { text = t.text; parts = t.parts; spelled = head t.text t.parts t.spelled h }
      on again (fails k) h h' = absurd cc

  -- a byte that leads on, in front of what can go on, can go on
  scan_begins : (b : ℕ) (s t : S) (front : List ℕ) → b < 256 → step s b ≡ goes t
      → Begins (Scans step H t) front → Begins (Scans step H s) (b ∷ front)
  scan_begins b s t front small e h = record {
    more = h.more;
    value = h.value;
    spelled = (small, rw e h.spelled);
  }

  -- so can one with which what comes behind begins
  scan_begins_behind : (b : ℕ) (s : S) (front : List ℕ) → b < 256 → step s b ≡ leaves
      → Begins (H s) (b ∷ front) → Begins (Scans step H s) (b ∷ front)
  scan_begins_behind b s front small e h = record {
    more = h.more;
    value = h.value;
    spelled = (small, rw e h.spelled);
  }

  -- where it wants more bytes, some text of the grammar begins so
  scan_ends : (bytes : List ℕ) (s : S) → Good s → IsBytes bytes → scan step f s bytes ≡ Err short
      → Begins (Scans step H s) bytes
  scan_ends [] s good small e = live s good
  scan_ends (b ∷ bytes) s good small e =
      on (λ u g h. scan_ends bytes u g small.1 h) (step s b) refl e
    where
      on : ((u : S) → Good u → scan step f u bytes ≡ Err short → Begins (Scans step H u) bytes)
          → (t : Step S K) → step s b ≡ t
          → by_step t (λ u. scan step f u bytes) (f s (b ∷ bytes)) (λ k.
          Err (bad k (suc (length bytes)))) ≡ Err short → Begins (Scans step H s) (b ∷ bytes)
      on again (goes u) h h' =
          scan_begins b s u bytes small.0 h (again u (stays_good s b u good h) h')
      on again leaves h h' =
          scan_begins_behind b s bytes small.0 h
          ((behind s b good h).short_is_front (b ∷ bytes) small h')
      on again (fails k) h h' = absurd cc

  -- the byte at which it fails is the first with which none goes on
  scan_stops : (bytes : List ℕ) (s : S) (k : K) (left : ℕ) → Good s → IsBytes bytes
      → scan step f s bytes ≡ Err (bad k left)
      → StopsAt (Scans step H s) (scan step f s) bytes k left
  scan_stops [] s k left good small e = absurd cc
  scan_stops (b ∷ bytes) s k left good small e =
      on (λ u g h. scan_stops bytes u k left g small.1 h) (step s b) refl e
    where
      behind_stops : step s b ≡ leaves → (front : List ℕ) (byte : ℕ) (rest : List ℕ)
          → b ∷ bytes ≡ front ++ byte ∷ rest → left ≡ suc (length rest) → Begins (H s) front
          → ((after : List ℕ) → f s (front ++ byte ∷ after) ≡ Err (bad k (suc (length after))))
          → StopsAt (Scans step H s) (scan step f s) (b ∷ bytes) k left
      behind_stops h [] byte rest parts place on stays =
          let same = cons_head b byte bytes rest parts in
          record {
            front = [];
            byte = byte;
            rest = rest;
            parts = parts;
            place = place;
            goes_on = live s good;
            stays = λ after. rw (← same) (rw h (rw same (stays after)));
          }
      behind_stops h (c ∷ front) byte rest parts place on stays =
          let same = cons_head b c bytes (front ++ byte ∷ rest) parts in
          record {
            front = c ∷ front;
            byte = byte;
            rest = rest;
            parts = parts;
            place = place;
            goes_on = rw (← same) (scan_begins_behind b s front small.0 h (rw same on));
            stays = λ after. rw (← same) (rw h (rw same (stays after)));
          }

      on : ((u : S) → Good u → scan step f u bytes ≡ Err (bad k left)
          → StopsAt (Scans step H u) (scan step f u) bytes k left) → (t : Step S K) → step s b ≡ t
          → by_step t (λ u. scan step f u bytes) (f s (b ∷ bytes)) (λ j.
          Err (bad j (suc (length bytes)))) ≡ Err (bad k left)
          → StopsAt (Scans step H s) (scan step f s) (b ∷ bytes) k left
      on again (goes u) h h' =
          let t = again u (stays_good s b u good h) h' in
          record {
            front = b ∷ t.front;
            byte = t.byte;
            rest = t.rest;
            parts = ap (λ (w : List ℕ). b ∷ w) t.parts;
            place = t.place;
            goes_on = scan_begins b s u t.front small.0 h t.goes_on;
            stays = λ after. rw h (t.stays after);
          }
      on again leaves h h' =
          let t = (behind s b good h).bad_is_first (b ∷ bytes) k left small h' in
          behind_stops h t.front t.byte t.rest t.parts t.place t.goes_on t.stays
      on again (fails j) h h' =
          let kind : j ≡ k = cc in
          record {
            front = [];
            byte = b;
            rest = bytes;
            parts = refl;
            place = cc;
            goes_on = live s good;
            stays = λ after. rw (h, kind) refl;
          }

  -- a scan whose good states all lead on reads its grammar exactly
  pub Reads-scan : (s : S) → Good s → Reads (Scans step H s) (scan step f s)
  Reads-scan s good = record {
    bytes = λ text x g. scan_bytes text s x good g;
    has_spelling = live s good;
    reads_spelling = λ text x rest g. scan_again text s x rest good g;
    sound = λ bytes x rest small e. scan_takes bytes s x rest good small e;
    short_is_front = λ bytes small e. scan_ends bytes s good small e;
    bad_is_first = λ bytes k left small e. scan_stops bytes s k left good small e;
  }

-- scanning goes on with what comes behind
pub scan-scan_to : {S K A : Type 0} (step : S → ℕ → Step S K) (f : S
    → Reader K A) (s : S) (bytes : List ℕ) → scan step f s bytes ≡ and_then (scan_to step s) f bytes
scan-scan_to step f s [] = refl
scan-scan_to {S = S} {K = K} {A = A} step f s (b ∷ bytes) =
    on (λ t. scan-scan_to step f t bytes) (step s b)
  where
    on : ((t : S) → scan step f t bytes ≡ and_then (scan_to step t) f bytes) → (t : Step S K)
        → by_step t (λ u. scan step f u bytes) (f s (b ∷ bytes)) (λ k.
        Err (bad k (suc (length bytes))))
        ≡ (by_step t (λ u. scan_to step u bytes) (Ok (s, b ∷ bytes)) (λ k.
        Err (bad k (suc (length bytes)))) >>= λ (x : S × List ℕ). f x.0 x.1)
    on again (goes u) = again u
    on again leaves = refl
    on again (fails k) = refl

-- a scan up to its last state, and then what this state chooses, is the scan
pub Reads-scanned : {S K A : Type 0} (G : List ℕ → A → Type 0) (step : S → ℕ → Step S K) (f : S
    → Reader K A) (s : S) → Reads G (scan step f s) → Reads G (and_then (scan_to step s) f)
Reads-scanned G step f s R =
    Reads-as G G (scan step f s) (and_then (scan_to step s) f) (λ text x g. g) (λ text x g. g)
    (scan-scan_to step f s) R
