-- Machines that go over the members of a list read their grammar exactly, and lines are cut
-- exactly.
use Rattle.std.proofs.Common.{◌≡◌, ℕ, suc, ◌+◌, ◌-◌, Bool, true, false, eqb, List, [], ◌∷◌, ◌++◌}
use Rattle.std.proofs.Common.{length, Option, Some, None, Result, Ok, Err, refl, sym, ap, subst}
use Rattle.std.{proofs.Common.◌∙◌, specs.List.flat_map, proofs.lemmas.Bool.{eqb-true, ne_eqb}}
use Rattle.do_grammar.specs.{Reader.{bad, accepted, by_result}, Words.Without}
use Rattle.do_grammar.specs.Lines.{Line, in_front, cut, line_bytes, automaton_over, AcceptsOver}
use Rattle.do_grammar.specs.{Lines.BeginsList, Forms.OnGo}

module _ {T S K A : Type 0} (step : S → T → Result S K) (accept : S → Option A) (Good : S
    → Type 0) (stays_good : (s : S) (b : T) (t : S) → Good s → step s b ≡ Ok t
    → Good t) (live : (s : S) → Good s → BeginsList (AcceptsOver step accept s) []) where
  -- a member in front of what can go on can go on
  over_begins : (b : T) (s t : S) (front : List T) → step s b ≡ Ok t
      → BeginsList (AcceptsOver step accept t) front
      → BeginsList (AcceptsOver step accept s) (b ∷ front)
  over_begins b s t front e h = record {
    more = h.more;
    value = h.value;
    spelled =
        subst (λ (w : Result S K).
        OnGo w (λ u. AcceptsOver step accept u (front ++ h.more) h.value)) (sym e) h.spelled;
  }

  -- where it stops it comes to a state that has no step at this member
  pub record StopsOver (text : List T) (s : S) (k : K) (left : ℕ) : Type 0 where
    pub front : List T
    pub member : T
    pub rest : List T
    pub parts : text ≡ front ++ member ∷ rest
    pub place : left ≡ suc (length rest)
    pub goes_on : BeginsList (AcceptsOver step accept s) front
    pub dead : (after : List T) (x : A) → AcceptsOver step accept s (front ++ member ∷ after) x → ⊥

  -- the member at which it fails is the first with which none goes on
  pub over_stops : (text : List T) (s : S) (k : K) (left : ℕ) → Good s
      → automaton_over step accept s text ≡ Err (bad k left) → StopsOver text s k left
  over_stops [] s k left good e = on (accept s) e
    where
      on : (o : Option A) → accepted o ≡ Err (bad k left) → StopsOver [] s k left
      on None h = absurd cc
      on (Some y) h = absurd cc
  over_stops (b ∷ text) s k left good e =
      on (λ u g h. over_stops text u k left g h) (step s b) refl e
    where
      on : ((u : S) → Good u → automaton_over step accept u text ≡ Err (bad k left)
          → StopsOver text u k left) → (t : Result S K) → step s b ≡ t
          → by_result t (λ u. automaton_over step accept u text) (λ k.
          Err (bad k (suc (length text)))) ≡ Err (bad k left) → StopsOver (b ∷ text) s k left
      on again (Ok u) h h' =
          let t = again u (stays_good s b u good h) h' in
          record {
            front = b ∷ t.front;
            member = t.member;
            rest = t.rest;
            parts = ap (λ (w : List T). b ∷ w) t.parts;
            place = t.place;
            goes_on = over_begins b s u t.front h t.goes_on;
            dead = λ after x g.
                t.dead after x
                (subst (λ (w : Result S K).
                OnGo w (λ v. AcceptsOver step accept v (t.front ++ t.member ∷ after) x)) h g);
          }
      on again (Err j) h h' =
          let kind : j ≡ k = cc in
          record {
            front = [];
            member = b;
            rest = text;
            parts = refl;
            place = cc;
            goes_on = live s good;
            dead = λ after x g.
                subst (λ (w : Result S K). OnGo w (λ v. AcceptsOver step accept v after x)) h g;
          }

-- ---- lines

-- the lines of a text make the text
line_front : (b : ℕ) (text : List ℕ) (fed : Bool)
    → line_bytes (record { text = b ∷ text; fed = fed })
    ≡ b ∷ line_bytes (record { text = text; fed = fed })
line_front b text true = refl
line_front b text false = refl

-- a byte in front of lines is a byte in front of their text
in_front_bytes : (b : ℕ) (ls : List Line)
    → flat_map line_bytes (in_front b ls) ≡ b ∷ flat_map line_bytes ls
in_front_bytes b [] = refl
in_front_bytes b (l ∷ ls) =
    ap (λ (w : List ℕ). w ++ flat_map line_bytes ls) (line_front b l.text l.fed)

-- the lines of a text make the text
pub cut_whole : (bytes : List ℕ) → flat_map line_bytes (cut bytes) ≡ bytes
cut_whole [] = refl
cut_whole (b ∷ bytes) = go (eqb b 10) refl (cut_whole bytes)
  where
    go : (t : Bool) → eqb b 10 ≡ t → flat_map line_bytes (cut bytes) ≡ bytes
        → flat_map line_bytes (cut (b ∷ bytes)) ≡ b ∷ bytes
    go true e again =
        rw e (ap (λ (w : List ℕ). 10 ∷ w) again ∙ ap (λ (w : ℕ). w ∷ bytes) (sym (eqb-true b 10 e)))
    go false e again = rw e (in_front_bytes b (cut bytes) ∙ ap (λ (w : List ℕ). b ∷ w) again)

-- a line without a line feed in it is cut off as it stands
pub cut_line : (text rest : List ℕ) → Without 10 text
    → cut (text ++ 10 ∷ rest) ≡ record { text = text; fed = true } ∷ cut rest
cut_line [] rest h = refl
cut_line (b ∷ text) rest h = rw (ne_eqb b 10 h.0, cut_line text rest h.1) refl
