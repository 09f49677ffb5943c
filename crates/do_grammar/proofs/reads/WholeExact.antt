-- Readers of all the bytes, and of bytes that lead from state to state.
use Rattle.std.proofs.Common.{◌≡◌, ℕ, suc, ◌<◌, ◌≤◌, List, [], ◌∷◌, ◌++◌, length, Option, Some}
use Rattle.std.{proofs.Common.{None, Result, Ok, Err, refl, sym, ap, subst, ◌∙◌}, specs.Prelude.◌-◌}
use Rattle.std.proofs.lemmas.List.{append-nil}
use Rattle.do_grammar.specs.Reader.{Stop, short, bad, Reader, Whole, ended, whole_of, then_whole}
use Rattle.do_grammar.specs.Reader.{accepted, by_result, automaton}
use Rattle.do_grammar.specs.Grammar.{IsBytes, Begins, IsProperFront, IsFirstBadWhole}
use Rattle.do_grammar.{specs.Forms.{Then, OnGo, Accepts}, proofs.faults.FaultPlace.is_placed}
use Rattle.do_grammar.proofs.reads.ExactReader.{StopsAt, StopsBy, StopsBy-chain, Reads}
use Rattle.do_grammar.proofs.reads.ExactReader.{IsBytes-append, IsBytes-rest, Begins-as, StopsAt-as}
use Rattle.do_grammar.proofs.reads.ChainAnswers.{Stopped, first, later, bind_ok, bind_err}

-- what a reader of all the bytes that stops at a byte tells
abbrev pub StopsWhole : {K A : Type 0} → (List ℕ → A → Type 0) → Whole K A → List ℕ → K → ℕ → Type 0
StopsWhole G w bytes k left = StopsAt G w bytes k left

-- the same of a reader of all the bytes, behind which nothing stands
pub record ReadsWhole {K A : Type 0} (G : List ℕ → A → Type 0) (w : Whole K A) : Type 0 where
  pub bytes : (text : List ℕ) (x : A) → G text x → IsBytes text
  pub has_spelling : Begins G []
  pub reads_spelling : (text : List ℕ) (x : A) → G text x → w text ≡ Ok x
  pub sound : (bytes : List ℕ) (x : A) → IsBytes bytes → w bytes ≡ Ok x → G bytes x
  pub short_is_front : (bytes : List ℕ) → IsBytes bytes → w bytes ≡ Err short → Begins G bytes
  pub bad_is_first : (bytes : List ℕ) (k : K) (left : ℕ) → IsBytes bytes
      → w bytes ≡ Err (bad k left) → StopsWhole G w bytes k left

-- ---- nothing left over

-- where nothing may be left over, a value means that nothing was
ended_ok : {K A : Type 0} (why : K) (x : A × List ℕ) (y : A) → ended why x ≡ Ok y
    → (x.0 ≡ y) × (x.1 ≡ [])
ended_ok why (x, []) y e = (cc, refl)
ended_ok why (x, b ∷ rest) y e = absurd cc

-- an exact reader, behind which nothing may be left over, reads all the bytes exactly
pub Reads-whole : {K A : Type 0} (why : K) (G : List ℕ → A → Type 0) (r : Reader K A) → Reads G r
    → ReadsWhole G (whole_of why r)
Reads-whole {K = K} {A = A} why G r R = record {
  bytes = R.bytes;
  has_spelling = R.has_spelling;
  reads_spelling = λ text x g. ap (λ (w : List ℕ). whole_of why r w) (sym (append-nil text))
      ∙ rw (R.reads_spelling text x [] g) refl;
  sound = takes;
  short_is_front = ends;
  bad_is_first = stops;
}
  where
    takes : (bytes : List ℕ) (x : A) → IsBytes bytes → whole_of why r bytes ≡ Ok x → G bytes x
    takes bytes x small e =
        let c = bind_ok (r bytes) (ended why) x e in
        let d = ended_ok why c.0 x c.2 in
        let t = R.sound bytes c.0.0 c.0.1 small c.1 in
        let same : t.text ≡ bytes = sym (append-nil t.text)
        ∙ ap (λ (w : List ℕ). t.text ++ w) (sym d.1) ∙ sym t.parts in
        subst (λ (w : A). G bytes w) d.0 (subst (λ (w : List ℕ). G w c.0.0) same t.spelled)

    ended_err : (x : A × List ℕ) (s : Stop K) → ended why x ≡ Err s
        → (b : ℕ) × (rest : List ℕ) × (x.1 ≡ b ∷ rest) × (s ≡ bad why (suc (length rest)))
    ended_err (x, []) s e = absurd cc
    ended_err (x, b ∷ rest) s e = (b, rest, refl, cc)

    ends : (bytes : List ℕ) → IsBytes bytes → whole_of why r bytes ≡ Err short → Begins G bytes
    ends bytes small e = go (bind_err (r bytes) (ended why) short e)
      where
        go : Stopped (r bytes) (ended why) short → Begins G bytes
        go (first h) = R.short_is_front bytes small h
        go (later x h h') = let d = ended_err x short h' in let f = d.3 in absurd cc

    stops : (bytes : List ℕ) (k : K) (left : ℕ) → IsBytes bytes
        → whole_of why r bytes ≡ Err (bad k left) → StopsWhole G (whole_of why r) bytes k left
    stops bytes k left small e = go (bind_err (r bytes) (ended why) (bad k left) e)
      where
        go : Stopped (r bytes) (ended why) (bad k left) → StopsWhole G (whole_of why r) bytes k left
        go (first h) =
            let s = R.bad_is_first bytes k left small h in
            record {
              front = s.front;
              byte = s.byte;
              rest = s.rest;
              parts = s.parts;
              place = s.place;
              goes_on = s.goes_on;
              stays = λ after. rw (s.stays after) refl;
            }
        go (later x h h') =
            let d = ended_err x (bad k left) h' in
            let f = d.3 in
            let kind : k ≡ why = cc in
            let t = R.sound bytes x.0 x.1 small h in
            record {
              front = t.text;
              byte = d.0;
              rest = d.1;
              parts = t.parts ∙ ap (λ (w : List ℕ). t.text ++ w) d.2;
              place = cc;
              goes_on = record {
                more = [];
                value = x.0;
                spelled = subst (λ (w : List ℕ). G w x.0) (sym (append-nil t.text)) t.spelled;
              };
              stays = λ after. rw (R.reads_spelling t.text x.0 (d.0 ∷ after) t.spelled, kind) refl;
            }

-- ---- a reader, and then all the rest

module _ {K A B : Type 0} (G : List ℕ → A → Type 0) (H : A → List ℕ → B
    → Type 0) (r : Reader K A) (f : A → Whole K B) (R : Reads G r) (S : (x : A) (text : List ℕ)
    → G text x → ReadsWhole (H x) (f x)) where
  -- a reader and then one of all the rest stop as they must
  whole_early : StopsBy (Then G H) (then_whole r f)
  whole_early = StopsBy-chain G H r f R (λ x text g. let s = S x text g in record {
    has_spelling = s.has_spelling;
    short_is_front = s.short_is_front;
    bad_is_first = s.bad_is_first;
  })

  -- an exact reader, and then an exact one of all the rest, read all the bytes exactly
  pub Reads-then_whole : ReadsWhole (Then G H) (then_whole r f)
  Reads-then_whole = record {
    bytes = λ text y g.
        subst IsBytes (sym g.parts)
        (IsBytes-append g.front g.back (R.bytes g.front g.value g.first)
        ((S g.value g.front g.first).bytes g.back y g.second));
    has_spelling = whole_early.has_spelling;
    reads_spelling = λ text y g. ap (then_whole r f) g.parts
        ∙ rw (R.reads_spelling g.front g.value g.back g.first)
        ((S g.value g.front g.first).reads_spelling g.back y g.second);
    sound = λ bytes y small e.
        let c = bind_ok (r bytes) (λ x. f x.0 x.1) y e in
        let t = R.sound bytes c.0.0 c.0.1 small c.1 in
        record {
          value = c.0.0;
          front = t.text;
          back = c.0.1;
          parts = t.parts;
          first = t.spelled;
          second =
              (S c.0.0 t.text t.spelled).sound c.0.1 y
              (IsBytes-rest t.text c.0.1 (subst IsBytes t.parts small)) c.2;
        };
    short_is_front = whole_early.short_is_front;
    bad_is_first = whole_early.bad_is_first;
  }

-- the same reader of the same grammar under other names
pub Whole-as : {K A : Type 0} (G H : List ℕ → A → Type 0) (r s : Whole K A)
    → ((text : List ℕ) (x : A) → G text x → H text x)
    → ((text : List ℕ) (x : A) → H text x → G text x) → ((bytes : List ℕ) → r bytes ≡ s bytes)
    → ReadsWhole G r → ReadsWhole H s
Whole-as G H r s there back same R = record {
  bytes = λ text x h. R.bytes text x (back text x h);
  has_spelling = Begins-as G H there [] R.has_spelling;
  reads_spelling = λ text x h. sym (same text) ∙ R.reads_spelling text x (back text x h);
  sound = λ bytes x b e. there bytes x (R.sound bytes x b (same bytes ∙ e));
  short_is_front = λ bytes b e.
      Begins-as G H there bytes (R.short_is_front bytes b (same bytes ∙ e));
  bad_is_first = λ bytes k left b e.
      StopsAt-as G H r s there same bytes k left (R.bad_is_first bytes k left b (same bytes ∙ e));
}

-- ---- bytes from state to state, up to their end

module _ {S K A : Type 0} (step : S → ℕ → Result S K) (accept : S → Option A) (Good : S
    → Type 0) (stays_good : (s : S) (b : ℕ) (t : S) → Good s → step s b ≡ Ok t
    → Good t) (live : (s : S) → Good s → Begins (Accepts step accept s) []) where
  -- what is accepted is made of bytes
  accepts_bytes : (text : List ℕ) (s : S) (x : A) → Accepts step accept s text x → IsBytes text
  accepts_bytes [] s x g = tt
  accepts_bytes (b ∷ text) s x g = (g.0, on (λ u h. accepts_bytes text u x h) (step s b) g.1)
    where
      on : ((u : S) → Accepts step accept u text x → IsBytes text) → (t : Result S K)
          → OnGo t (λ u. Accepts step accept u text x) → IsBytes text
      on again (Ok u) h = again u h
      on again (Err k) h = absurd h

  -- the automaton gives the value of each text that it accepts
  accepts_again : (text : List ℕ) (s : S) (x : A) → Accepts step accept s text x
      → automaton step accept s text ≡ Ok x
  accepts_again [] s x g = rw g refl
  accepts_again (b ∷ text) s x g = on (λ u h. accepts_again text u x h) (step s b) g.1
    where
      on : ((u : S) → Accepts step accept u text x → automaton step accept u text ≡ Ok x)
          → (t : Result S K) → OnGo t (λ u. Accepts step accept u text x)
          → by_result t (λ u. automaton step accept u text) (λ k. Err (bad k (suc (length text))))
          ≡ Ok x
      on again (Ok u) h = again u h
      on again (Err k) h = absurd h

  -- what it gives a value of is accepted with this value
  accepts_takes : (bytes : List ℕ) (s : S) (x : A) → IsBytes bytes
      → automaton step accept s bytes ≡ Ok x → Accepts step accept s bytes x
  accepts_takes [] s x small e = on (accept s) e
    where
      on : (o : Option A) → accepted {K = K} o ≡ Ok x → o ≡ Some x
      on None h = absurd cc
      on (Some y) h = cc
  accepts_takes (b ∷ bytes) s x small e =
      (small.0, on (λ u h. accepts_takes bytes u x small.1 h) (step s b) e)
    where
      on : ((u : S) → automaton step accept u bytes ≡ Ok x → Accepts step accept u bytes x)
          → (t : Result S K)
          → by_result t (λ u. automaton step accept u bytes) (λ k. Err (bad k (suc (length bytes))))
          ≡ Ok x → OnGo t (λ u. Accepts step accept u bytes x)
      on again (Ok u) h = again u h
      on again (Err k) h = absurd cc

  -- a byte in front of what can go on can go on
  accepts_begins : (b : ℕ) (s t : S) (front : List ℕ) → b < 256 → step s b ≡ Ok t
      → Begins (Accepts step accept t) front → Begins (Accepts step accept s) (b ∷ front)
  accepts_begins b s t front small e h = record {
    more = h.more;
    value = h.value;
    spelled = (
      small,
      subst (λ (w : Result S K).
          OnGo w (λ u. Accepts step accept u (front ++ h.more) h.value)) (sym e) h.spelled,
    );
  }

  -- where it wants more bytes, some text that it accepts begins so
  accepts_ends : (bytes : List ℕ) (s : S) → Good s → IsBytes bytes
      → automaton step accept s bytes ≡ Err short → Begins (Accepts step accept s) bytes
  accepts_ends [] s good small e = live s good
  accepts_ends (b ∷ bytes) s good small e =
      on (λ u g h. accepts_ends bytes u g small.1 h) (step s b) refl e
    where
      on : ((u : S) → Good u → automaton step accept u bytes ≡ Err short
          → Begins (Accepts step accept u) bytes) → (t : Result S K) → step s b ≡ t
          → by_result t (λ u. automaton step accept u bytes) (λ k. Err (bad k (suc (length bytes))))
          ≡ Err short → Begins (Accepts step accept s) (b ∷ bytes)
      on again (Ok u) h h' =
          accepts_begins b s u bytes small.0 h (again u (stays_good s b u good h) h')
      on again (Err k) h h' = absurd cc

  -- the byte at which it fails is the first with which none goes on
  accepts_stops : (bytes : List ℕ) (s : S) (k : K) (left : ℕ) → Good s → IsBytes bytes
      → automaton step accept s bytes ≡ Err (bad k left)
      → StopsWhole (Accepts step accept s) (automaton step accept s) bytes k left
  accepts_stops [] s k left good small e = on (accept s) e
    where
      on : (o : Option A) → accepted o ≡ Err (bad k left)
          → StopsWhole (Accepts step accept s) (automaton step accept s) [] k left
      on None h = absurd cc
      on (Some y) h = absurd cc
  accepts_stops (b ∷ bytes) s k left good small e =
      on (λ u g h. accepts_stops bytes u k left g small.1 h) (step s b) refl e
    where
      on : ((u : S) → Good u → automaton step accept u bytes ≡ Err (bad k left)
          → StopsWhole (Accepts step accept u) (automaton step accept u) bytes k left)
          → (t : Result S K) → step s b ≡ t
          → by_result t (λ u. automaton step accept u bytes) (λ k. Err (bad k (suc (length bytes))))
          ≡ Err (bad k left)
          → StopsWhole (Accepts step accept s) (automaton step accept s) (b ∷ bytes) k left
      on again (Ok u) h h' =
          let t = again u (stays_good s b u good h) h' in
          record {
            front = b ∷ t.front;
            byte = t.byte;
            rest = t.rest;
            parts = ap (λ (w : List ℕ). b ∷ w) t.parts;
            place = t.place;
            goes_on = accepts_begins b s u t.front small.0 h t.goes_on;
            stays = λ after. rw h (t.stays after);
          }
      on again (Err j) h h' =
          let kind : j ≡ k = cc in
          record {
            front = [];
            byte = b;
            rest = bytes;
            parts = refl;
            place = cc;
            goes_on = live s good;
            stays = λ after. rw (h, kind) refl;
          }

  -- an automaton whose good states all lead to an accepted one reads exactly what it accepts
  pub Reads-automaton : (s : S) → Good s
      → ReadsWhole (Accepts step accept s) (automaton step accept s)
  Reads-automaton s good = record {
    bytes = λ text x g. accepts_bytes text s x g;
    has_spelling = live s good;
    reads_spelling = λ text x g. accepts_again text s x g;
    sound = λ bytes x small e. accepts_takes bytes s x small e;
    short_is_front = λ bytes small e. accepts_ends bytes s good small e;
    bad_is_first = λ bytes k left small e. accepts_stops bytes s k left good small e;
  }

-- ---- what an exact reader of all the bytes tells

-- a fault leaves at most all the bytes
pub left_within_whole : {K A : Type 0} (G : List ℕ → A → Type 0) (w : Whole K A) → ReadsWhole G w
    → (bytes : List ℕ) (k : K) (left : ℕ) → IsBytes bytes → w bytes ≡ Err (bad k left)
    → left ≤ length bytes
left_within_whole G w R bytes k left small e =
    let s = R.bad_is_first bytes k left small e in
    (is_placed bytes s.front s.byte s.rest left s.parts s.place).within

-- where a reader of all the bytes wants more, they are a proper front of a spelling
pub proper_front_whole : {K A : Type 0} (G : List ℕ → A → Type 0) (w : Whole K A) → ReadsWhole G w
    → (bytes : List ℕ) → IsBytes bytes → w bytes ≡ Err short → IsProperFront G bytes
proper_front_whole {A = A} G w R bytes small e = go (R.short_is_front bytes small e)
  where
    from : (more : List ℕ) (x : A) → G (bytes ++ more) x → IsProperFront G bytes
    from [] x g =
        let got = R.reads_spelling (bytes ++ []) x g in
        let same = ap w (append-nil bytes) in
        absurd cc
    from (b ∷ more) x g = record { next = b; more = more; value = x; spelled = g }

    go : Begins G bytes → IsProperFront G bytes
    go b = from b.more b.value b.spelled

-- where it fails, it is at the first byte with which no spelling goes on
pub first_bad_whole : {K A : Type 0} (G : List ℕ → A → Type 0) (w : Whole K A) → ReadsWhole G w
    → (bytes : List ℕ) (k : K) (left : ℕ) → IsBytes bytes → w bytes ≡ Err (bad k left)
    → IsFirstBadWhole G bytes (length bytes - left)
first_bad_whole {A = A} G w R bytes k left small e =
    let s = R.bad_is_first bytes k left small e in
    let p = is_placed bytes s.front s.byte s.rest left s.parts s.place in
    record {
      inside = p.inside;
      before = subst (Begins G) (sym p.before) s.goes_on;
      dead = λ after x g.
          let got =
          R.reads_spelling (s.front ++ s.byte ∷ after) x
          (subst (λ (v : List ℕ). G v x) (p.through after) g) in
          let stop = s.stays after in
          absurd cc;
    }
