-- Grammars of one spelling are read exactly: pairs, other values, tagged values, lists, and lists
-- by a state.
use Rattle.std.proofs.Common.{◌≡◌, ℕ, zero, suc, ◌<◌, ◌≤◌, ◌^◌, Bool, true, List, [], ◌∷◌, ◌++◌}
use Rattle.std.proofs.Common.{length, Result, Ok, Err, refl, sym, ap, subst, ◌∙◌, arith}
use Rattle.std.specs.List.{flat_map, AllByRecursion}
use Rattle.do_grammar.specs.Reader.{Reader, Stop, no_kind, ◌>>=◌, done, mapped, byte_of, times}
use Rattle.do_grammar.specs.{Forms.{Done, Then, Byte, Passes, Mapped}, Num.{num, num_at, Num}}
use Rattle.do_grammar.proofs.reads.ExactReader.{Reads, Reads-done, Reads-then, Reads-byte, Reads-as}
use Rattle.do_grammar.proofs.{reads.FormsExact.Reads-mapped, texts.NumExact.Reads-num}
use Rattle.do_grammar.specs.OneSpelling.{Spelled, both, tagged, list_at, list_spelling, FitsList}
use Rattle.do_grammar.specs.OneSpelling.{times_by, spelling_by}

-- what nothing spells is one value
pub Reads-nothing : {A : Type 0} (spelling : A → List ℕ) (Fits : A → Type 0) (x : A)
    → spelling x ≡ [] → Fits x → ((y : A) → Fits y → x ≡ y)
    → Reads {K = Unit {0}} (Spelled spelling Fits) (done x)
Reads-nothing spelling Fits x e h only =
    Reads-as (Done x) (Spelled spelling Fits) (done x) (done x)
    (λ text y g.
    subst (Spelled spelling Fits text) g.same (record { bytes = g.nothing ∙ sym e; fits = h }))
    (λ text y g. let s = only y g.fits in record {
      nothing = g.bytes ∙ ap spelling (sym s) ∙ e;
      same = s;
    })
    (λ bytes. refl) (Reads-done x)

module _ {A B : Type 0} (first : A → List ℕ) (second : A → B → List ℕ) (P : A → Type 0) (Q : A → B
    → Type 0) (r : Reader (Unit {0}) A) (f : A → Reader (Unit {0}) B)
    (R : Reads (Spelled first P) r) (S : (x : A) → P x
    → Reads (Spelled (second x) (Q x)) (f x)) where
  -- two values, the second by a reader that the first chooses
  pub Reads-both : Reads (Spelled (λ p. first p.0 ++ second p.0 p.1) (λ p. P p.0 × Q p.0 p.1))
      (both r f)
  Reads-both =
      Reads-as (Then (Spelled first P) later) whole (both r f) (both r f) there back (λ bytes. refl)
      (Reads-then (Spelled first P) later r (λ x. mapped (λ y. (x, y)) (f x)) R (λ x text g.
      Reads-mapped (λ y. (x, y)) (Spelled (second x) (Q x)) (f x) (S x g.fits)))
    where
      whole : List ℕ → A × B → Type 0
      whole = Spelled (λ p. first p.0 ++ second p.0 p.1) (λ p. P p.0 × Q p.0 p.1)

      later : A → List ℕ → A × B → Type 0
      later = λ x. Mapped (λ y. (x, y)) (Spelled (second x) (Q x))

      there : (text : List ℕ) (p : A × B) → Then (Spelled first P) later text p → whole text p
      there text p g =
          subst (whole text) g.second.same (record {
            bytes = g.parts ∙ ap (λ (w : List ℕ). w ++ g.back) g.first.bytes
                ∙ ap (λ (w : List ℕ). first g.value ++ w) g.second.spelled.bytes;
            fits = (g.first.fits, g.second.spelled.fits);
          })

      back : (text : List ℕ) (p : A × B) → whole text p → Then (Spelled first P) later text p
      back text p g =
          record {
            value = p.0;
            front = first p.0;
            back = second p.0 p.1;
            parts = g.bytes;
            first = record { bytes = refl; fits = g.fits.0 };
            second = record {
              value = p.1;
              spelled = record { bytes = refl; fits = g.fits.1 };
              same = refl;
            };
          }

-- the same spellings for the values of another type, some of which it may leave out
module _ {A B : Type 0} (to : A → B) (spelling : A → List ℕ) (P : A → Type 0) (spelling' : B
    → List ℕ) (Q : B → Type 0) (r : Reader (Unit {0}) A) where
  -- a value that is made of another one and has its spelling
  pub Reads-onto : Reads (Spelled spelling P) r
      → ((x : A) → P x → (spelling' (to x) ≡ spelling x) × Q (to x))
      → ((y : B) → Q y → (x : A) × (to x ≡ y) × P x) → Reads (Spelled spelling' Q) (mapped to r)
  Reads-onto R there_is back_is =
      Reads-as (Mapped to (Spelled spelling P)) (Spelled spelling' Q) (mapped to r)
      (mapped to r) there back (λ bytes. refl) (Reads-mapped to (Spelled spelling P) r R)
    where
      there : (text : List ℕ) (y : B) → Mapped to (Spelled spelling P) text y
          → Spelled spelling' Q text y
      there text y g =
          let t = there_is g.value g.spelled.fits in
          subst (Spelled spelling' Q text) g.same (record {
            bytes = g.spelled.bytes ∙ sym t.0;
            fits = t.1;
          })

      back : (text : List ℕ) (y : B) → Spelled spelling' Q text y
          → Mapped to (Spelled spelling P) text y
      back text y g =
          let b = back_is y g.fits in
          let t = there_is b.0 b.2 in
          record {
            value = b.0;
            spelled = record { bytes = g.bytes ∙ ap spelling' (sym b.1) ∙ t.0; fits = b.2 };
            same = b.1;
          }

-- ---- a tag and a body

module _ {A : Type 0} (tag : A → ℕ) (body : A → List ℕ) (spelling : A → List ℕ) (Fits : A
    → Type 0) (ok : ℕ → Bool) (bodies : ℕ → Reader (Unit {0}) A) where
  -- a tag that passes, and a body that the tag chooses
  pub Reads-tagged : ((x : A) → spelling x ≡ tag x ∷ body x)
      → ((x : A) → Fits x → (ok (tag x) ≡ true) × (tag x < 256)) → Passes ok
      → ((b : ℕ) → ok b ≡ true → Reads (Spelled body (λ x. (tag x ≡ b) × Fits x)) (bodies b))
      → Reads (Spelled spelling Fits) (tagged ok bodies)
  Reads-tagged parts passes some R =
      Reads-as (Then (Byte ok) later) (Spelled spelling Fits) (tagged ok bodies)
      (tagged ok bodies) there back (λ bytes. refl)
      (Reads-then (Byte ok) later (byte_of ok (λ b. no_kind)) bodies
      (Reads-byte ok (λ b. no_kind) some) (λ b text g. R b g.passes))
    where
      later : ℕ → List ℕ → A → Type 0
      later = λ b. Spelled body (λ x. (tag x ≡ b) × Fits x)

      there : (text : List ℕ) (x : A) → Then (Byte ok) later text x → Spelled spelling Fits text x
      there text x g =
          record {
            bytes = g.parts ∙ ap (λ (w : List ℕ). w ++ g.back) g.first.alone
                ∙ ap (λ (w : List ℕ). g.value ∷ w) g.second.bytes
                ∙ ap (λ (w : ℕ). w ∷ body x) (sym g.second.fits.0) ∙ sym (parts x);
            fits = g.second.fits.1;
          }

      back : (text : List ℕ) (x : A) → Spelled spelling Fits text x → Then (Byte ok) later text x
      back text x g =
          let p = passes x g.fits in
          record {
            value = tag x;
            front = tag x ∷ [];
            back = body x;
            parts = g.bytes ∙ parts x;
            first = record { alone = refl; passes = p.0; small = p.1 };
            second = record { bytes = refl; fits = (refl, g.fits) };
          }

-- ---- numbers

-- a number between two bounds
pub Reads-number : (low high : ℕ) → low ≤ high → high < 2 ^ 64
    → Reads (Spelled num (λ n. (low ≤ n) × (n ≤ high))) (num_at no_kind low high)
Reads-number low high order fits =
    Reads-as (Num low high) (Spelled num (λ n. (low ≤ n) × (n ≤ high))) (num_at no_kind low high)
    (num_at no_kind low high)
    (λ text n g. record { bytes = g.spelled; fits = (g.at_least, g.at_most) })
    (λ text n g. record { spelled = g.bytes; at_least = g.fits.0; at_most = g.fits.1 })
    (λ bytes. refl) (Reads-num no_kind low high order fits)

-- ---- values by a state

module _ {A S : Type 0} (spelling : S → A → List ℕ) (Fits : S → A → Type 0) (after : S → A
    → S) where
  -- each value fits the state that those before it leave
  abbrev pub FitBy : S → List A → Type 0
  FitBy s [] = Unit {0}
  FitBy s (x ∷ xs) = Fits s x × FitBy (after s x) xs

  -- so many values that fit
  abbrev pub ManyBy : ℕ → S → List A → Type 0
  ManyBy n s xs = (length xs ≡ n) × FitBy s xs

  module _ (r : S → Reader (Unit {0}) A) where
    inner : (x : A) (t : Reader (Unit {0}) (List A)) (bytes : List ℕ)
        → mapped {A = A × List A} (λ p. p.0 ∷ p.1) (mapped (λ y. (x, y)) t) bytes
        ≡ (t bytes >>= λ xs. Ok (x ∷ xs.0, xs.1))
    inner x t bytes = go (t bytes) refl
      where
        go : (read : Result (List A × List ℕ) (Stop (Unit {0}))) → t bytes ≡ read
            → mapped {A = A × List A} (λ p. p.0 ∷ p.1) (mapped (λ y. (x, y)) t) bytes
            ≡ (t bytes >>= λ xs. Ok (x ∷ xs.0, xs.1))
        go (Ok y) e = rw e refl
        go (Err d) e = rw e refl

    turns : (n : ℕ) (s : S) (bytes : List ℕ)
        → mapped {A =
        A × List A} (λ p. p.0 ∷ p.1) (both (r s) (λ x. times_by r after n (after s x))) bytes
        ≡ times_by r after (suc n) s bytes
    turns n s bytes = go (r s bytes) refl
      where
        go : (read : Result (A × List ℕ) (Stop (Unit {0}))) → r s bytes ≡ read
            → mapped {A =
            A × List A} (λ p. p.0 ∷ p.1) (both (r s) (λ x. times_by r after n (after s x))) bytes
            ≡ times_by r after (suc n) s bytes
        go (Ok x) e = rw e (inner x.0 (times_by r after n (after s x.0)) x.1)
        go (Err d) e = rw e refl

  module _ (r : S → Reader (Unit {0}) A) (I : S → Type 0) (R : (s : S) → I s
      → Reads (Spelled (spelling s) (Fits s)) (r s)) (kept : (s : S) (x : A) → I s → Fits s x
      → I (after s x)) where
    pub Reads-times_by : (n : ℕ) (s : S) → I s
        → Reads (Spelled (spelling_by spelling after s) (ManyBy n s)) (times_by r after n s)
    Reads-times_by zero s i =
        Reads-nothing (spelling_by spelling after s) (ManyBy 0 s) [] refl (refl, tt) only
      where
        only : (ys : List A) → ManyBy 0 s ys → [] ≡ ys
        only [] h = refl
        only (y ∷ ys) h = let e = h.0 in absurd cc
    Reads-times_by (suc n) s i =
        Reads-as many many turn (times_by r after (suc n) s) (λ text xs g. g) (λ text xs g. g)
        (turns r n s)
        (Reads-onto (λ p. p.0 ∷ p.1) pair_spelling pair_fits (spelling_by spelling after s)
        (ManyBy (suc n) s) (both (r s) (λ x. times_by r after n (after s x)))
        (Reads-both (spelling s) (λ x. spelling_by spelling after (after s x)) (Fits s) (λ x.
        ManyBy n (after s x)) (r s) (λ x. times_by r after n (after s x)) (R s i)
        (λ x h. Reads-times_by n (after s x) (kept s x i h)))
        (λ p h. (refl, (ap suc h.1.0, (h.0, h.1.1)))) back)
      where
        many : List ℕ → List A → Type 0
        many = Spelled (spelling_by spelling after s) (ManyBy (suc n) s)

        turn : Reader (Unit {0}) (List A)
        turn = mapped (λ p. p.0 ∷ p.1) (both (r s) (λ x. times_by r after n (after s x)))

        pair_spelling : A × List A → List ℕ
        pair_spelling = λ p. spelling s p.0 ++ spelling_by spelling after (after s p.0) p.1

        pair_fits : A × List A → Type 0
        pair_fits = λ p. Fits s p.0 × ManyBy n (after s p.0) p.1

        back : (ys : List A) → ManyBy (suc n) s ys
            → (p : A × List A) × (p.0 ∷ p.1 ≡ ys) × pair_fits p
        back [] h = let e = h.0 in absurd cc
        back (y ∷ ys) h = let e = h.0 in ((y, ys), refl, (h.1.0, (omega arith, h.1.1)))

-- ---- lists

module _ {A : Type 0} (spelling : A → List ℕ) (Fits : A → Type 0) where
  abbrev pub Many : ℕ → List A → Type 0
  Many n xs = (length xs ≡ n) × AllByRecursion Fits xs

  -- without a state one more value is read as before
  times_turn : (r : Reader (Unit {0}) A) (n : ℕ)
      → ((rest : List ℕ) → times_by {S = Unit {0}} (λ u. r) (λ u x. u) n tt rest ≡ times r n rest)
      → (bytes : List ℕ) (read : Result (A × List ℕ) (Stop (Unit {0}))) → r bytes ≡ read
      → times_by {S = Unit {0}} (λ u. r) (λ u x. u) (suc n) tt bytes ≡ times r (suc n) bytes
  times_turn r n same bytes (Ok x) e = rw (e, same x.1) refl
  times_turn r n same bytes (Err d) e = rw e refl

  -- without a state so many values are read as before
  times_by_times : (r : Reader (Unit {0}) A) (n : ℕ) (bytes : List ℕ)
      → times_by {S = Unit {0}} (λ u. r) (λ u x. u) n tt bytes ≡ times r n bytes
  times_by_times r zero bytes = refl
  times_by_times r (suc n) bytes =
      times_turn r n (λ rest. times_by_times r n rest) bytes (r bytes) refl

  -- what fits by no state fits
  all_by : (xs : List A) → FitBy {S = Unit {0}} (λ u. spelling) (λ u. Fits) (λ u x. u) tt xs
      → AllByRecursion Fits xs
  all_by [] h = tt
  all_by (x ∷ xs) h = (h.0, all_by xs h.1)

  -- and what fits, fits by no state
  by_all : (xs : List A) → AllByRecursion Fits xs
      → FitBy {S = Unit {0}} (λ u. spelling) (λ u. Fits) (λ u x. u) tt xs
  by_all [] h = tt
  by_all (x ∷ xs) h = (h.0, by_all xs h.1)

  -- spellings by no state stand one behind the other
  spelling_by-flat_map : (xs : List A)
      → spelling_by {S = Unit {0}} (λ u. spelling) (λ u x. u) tt xs ≡ flat_map spelling xs
  spelling_by-flat_map [] = refl
  spelling_by-flat_map (x ∷ xs) = ap (λ (w : List ℕ). spelling x ++ w) (spelling_by-flat_map xs)

  -- so many values of one grammar
  pub Reads-many : (r : Reader (Unit {0}) A) (n : ℕ) → (0 < n → Reads (Spelled spelling Fits) r)
      → Reads (Spelled (flat_map spelling) (Many n)) (times r n)
  Reads-many r zero R = Reads-nothing (flat_map spelling) (Many 0) [] refl (refl, tt) only
    where
      only : (ys : List A) → Many 0 ys → [] ≡ ys
      only [] h = refl
      only (y ∷ ys) h = let e = h.0 in absurd cc
  Reads-many r (suc n) R =
      Reads-as (Spelled (spelling_by {S = Unit {0}} (λ u. spelling) (λ u x. u) tt) (ManyBy {S =
      Unit {0}} (λ u. spelling) (λ u. Fits) (λ u x. u) (suc n) tt))
      (Spelled (flat_map spelling) (Many (suc n))) (times_by {S =
      Unit {0}} (λ u. r) (λ u x. u) (suc n) tt) (times r (suc n))
      (λ text xs g. record {
        bytes = g.bytes ∙ spelling_by-flat_map xs;
        fits = (g.fits.0, all_by xs g.fits.1);
      })
      (λ text xs g. record {
        bytes = g.bytes ∙ sym (spelling_by-flat_map xs);
        fits = (g.fits.0, by_all xs g.fits.1);
      })
      (times_by_times r (suc n))
      (Reads-times_by {S =
      Unit {0}} (λ u. spelling) (λ u. Fits) (λ u x. u) (λ u. r) (λ u. Unit {0}) (λ u i.
      R (omega arith)) (λ u x i h. tt) (suc n) tt tt)

module _ {A : Type 0} (low high : ℕ) (spellings : List A → List ℕ) (Fit : ℕ → List A
    → Type 0) (many : ℕ → Reader (Unit {0}) (List A)) where
  -- a list of a length between two bounds, behind this length
  pub Reads-list : low ≤ high → high < 2 ^ 64
      → ((n : ℕ) → low ≤ n → n ≤ high
      → Reads (Spelled spellings (λ xs. (length xs ≡ n) × Fit n xs)) (many n))
      → Reads (Spelled (list_spelling spellings) (FitsList low high Fit)) (list_at low high many)
  Reads-list order small R =
      Reads-as (Then (Num low high) later) whole (list_at low high many)
      (list_at low high many) there back (λ bytes. refl)
      (Reads-then (Num low high) later (num_at no_kind low high) many
      (Reads-num no_kind low high order small) (λ n text g. R n g.at_least g.at_most))
    where
      whole : List ℕ → List A → Type 0
      whole = Spelled (list_spelling spellings) (FitsList low high Fit)

      later : ℕ → List ℕ → List A → Type 0
      later = λ n. Spelled spellings (λ xs. (length xs ≡ n) × Fit n xs)

      there : (text : List ℕ) (xs : List A) → Then (Num low high) later text xs → whole text xs
      there text xs g =
          let n = g.second.fits.0 in
          let least = g.first.at_least in
          let most = g.first.at_most in
          record {
            bytes = g.parts ∙ ap (λ (w : List ℕ). w ++ g.back) g.first.spelled
                ∙ ap (λ (w : List ℕ). num g.value ++ w) g.second.bytes
                ∙ ap (λ (k : ℕ). num k ++ spellings xs) (sym n);
            fits = record {
              at_least = omega arith;
              at_most = omega arith;
              each = subst (λ (k : ℕ). Fit k xs) (sym n) g.second.fits.1;
            };
          }

      back : (text : List ℕ) (xs : List A) → whole text xs → Then (Num low high) later text xs
      back text xs g =
          record {
            value = length xs;
            front = num (length xs);
            back = spellings xs;
            parts = g.bytes;
            first = record { spelled = refl; at_least = g.fits.at_least; at_most = g.fits.at_most };
            second = record { bytes = refl; fits = (refl, g.fits.each) };
          }
