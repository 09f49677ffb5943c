-- Laws of the table of recent names.
use Rattle.std.proofs.Common.{◌≡◌, ℕ, zero, suc, ◌+◌, ◌-◌, ◌<◌, ◌≤◌, Bool, true, false, List, []}
use Rattle.std.proofs.Common.{◌∷◌, ◌++◌, length, drop, take, get_or, Option, Some, None, refl, sym}
use Rattle.std.{proofs.Common.{ap, subst, ◌∙◌, arith}, specs.List.AllByRecursion}
use Rattle.std.proofs.lemmas.Bool.{eq-eqb, Decides.nat_tests}
use Rattle.std.proofs.lemmas.List.{length-append, length-drop, drop-drop, length-take-le, take_all}
use Rattle.do_coder.specs.{declared.recent.pair.Pair.Pair, Recent.{pair, same_pair, place_in}}
use Rattle.do_coder.specs.Recent.{newest, after_pair, AllDiffer, IsKnown, IsRecent}
use Rattle.do_coder.specs.NameLog.{HasTables}

-- the test is exact
pub same_is : (p q : Pair) → same_pair p q ≡ true → p ≡ q
same_is p q e =
    let a : p.serial ≡ q.serial = grind (arith, nat_tests) in
    let b : p.class.0 ≡ q.class.0 = grind (arith, nat_tests) in
    ap (λ (n : ℕ). record { serial = n; class = p.class }) a
    ∙ ap (λ (n : ℕ). record { serial = q.serial; class = record { 0 = n } }) b

-- a pair is the same as itself
pub same_self : (p : Pair) → same_pair p p ≡ true
same_self p = rw (eq-eqb p.serial p.serial refl, eq-eqb p.class.0 p.class.0 refl) refl

-- a place is of the pair
pub place_got : (p : Pair) (table : List Pair) (k : ℕ) → place_in p table ≡ Some k
    → (k < length table) × (get_or table k (pair 0 0) ≡ p)
place_got p [] k e = absurd cc
place_got p (q ∷ table) k e =
    go (same_pair q p) refl (place_in p table) refl (λ j f. place_got p table j f)
  where
    go : (t : Bool) → same_pair q p ≡ t → (o : Option ℕ) → place_in p table ≡ o
        → ((j : ℕ) → place_in p table ≡ Some j
        → (j < length table) × (get_or table j (pair 0 0) ≡ p))
        → (k < length (q ∷ table)) × (get_or (q ∷ table) k (pair 0 0) ≡ p)
    go true t o f rec =
        let at : Some 0 ≡ Some k = sym (rw t refl) ∙ e in
        let z : 0 ≡ k = cc in
        rw (← z) (omega arith, same_is q p t)
    go false t (Some j) f rec =
        let at : Some (suc j) ≡ Some k = sym (rw (t, f) refl) ∙ e in
        let z : suc j ≡ k = cc in
        let r = rec j f in
        rw (← z) (omega (arith, r.0), r.1)
    go false t None f rec = let at : None ≡ Some k = sym (rw (t, f) refl) ∙ e in absurd cc

-- where all differ each pair has its own place
pub got_place : (table : List Pair) (k : ℕ) → AllDiffer table → k < length table
    → place_in (get_or table k (pair 0 0)) table ≡ Some k
got_place [] k d lt = absurd (omega arith)
got_place (q ∷ table) zero d lt = rw (same_self q) refl
got_place (q ∷ table) (suc k) d lt =
    let rec = got_place table k d.1 (omega arith) in
    go (same_pair q (get_or table k (pair 0 0))) refl rec
  where
    go : (t : Bool) → same_pair q (get_or table k (pair 0 0)) ≡ t
        → place_in (get_or table k (pair 0 0)) table ≡ Some k
        → place_in (get_or (q ∷ table) (suc k) (pair 0 0)) (q ∷ table) ≡ Some (suc k)
    go true t rec =
        let e = same_is q (get_or table k (pair 0 0)) t in
        let f : place_in q table ≡ Some k = ap (λ (w : Pair). place_in w table) e ∙ rec in
        let none = d.0 in
        absurd cc
    go false t rec = rw (t, rec) refl

-- ---- what stays after a name

-- a pair without a place is not the first, and has none behind it
none_head : (p q : Pair) (table : List Pair) → place_in p (q ∷ table) ≡ None
    → (same_pair q p ≡ false) × (place_in p table ≡ None)
none_head p q table e = go (same_pair q p) refl (place_in p table) refl
  where
    go : (t : Bool) → same_pair q p ≡ t → (o : Option ℕ) → place_in p table ≡ o
        → (same_pair q p ≡ false) × (place_in p table ≡ None)
    go true t o f = let at : Some 0 ≡ None = sym (rw t refl) ∙ e in absurd cc
    go false t (Some j) f = let at : Some (suc j) ≡ None = sym (rw (t, f) refl) ∙ e in absurd cc
    go false t None f = (t, f)

-- the test goes both ways
differs : (p q : Pair) → same_pair q p ≡ false → same_pair p q ≡ false
differs p q e = go (same_pair p q) refl
  where
    go : (t : Bool) → same_pair p q ≡ t → same_pair p q ≡ false
    go true t =
        let s = same_is p q t in
        let f : same_pair q p ≡ true = ap (λ (w : Pair). same_pair q w) s ∙ same_self q in
        absurd cc
    go false t = t

-- a pair without a place has none before another pair either
none_push : (q p : Pair) (table : List Pair) → place_in q table ≡ None → same_pair p q ≡ false
    → place_in q (table ++ p ∷ []) ≡ None
none_push q p [] e f = rw f refl
none_push q p (r ∷ table) e f =
    let h = none_head q r table e in
    rw (h.0, none_push q p table h.1 f) refl

-- pairs that all differ do so with one more that had no place
differ_push : (table : List Pair) (p : Pair) → AllDiffer table → place_in p table ≡ None
    → AllDiffer (table ++ p ∷ [])
differ_push [] p d e = (refl, tt)
differ_push (q ∷ table) p d e =
    let h = none_head p q table e in
    (none_push q p table d.0 (differs p q h.0), differ_push table p d.1 h.1)

-- and without the oldest
differ_drop : (n : ℕ) (table : List Pair) → AllDiffer table → AllDiffer (drop n table)
differ_drop zero table d = d
differ_drop (suc n) [] d = tt
differ_drop (suc n) (q ∷ table) d = differ_drop n table d.1

-- what holds of each pair holds of each without the oldest
known_drop : (P : Pair → Type 0) (n : ℕ) (table : List Pair) → AllByRecursion P table
    → AllByRecursion P (drop n table)
known_drop P zero table d = d
known_drop P (suc n) [] d = tt
known_drop P (suc n) (q ∷ table) d = known_drop P n table d.1

-- and with one more of which it holds
known_push : (P : Pair → Type 0) (table : List Pair) (p : Pair) → AllByRecursion P table → P p
    → AllByRecursion P (table ++ p ∷ [])
known_push P [] p d e = (e, tt)
known_push P (q ∷ table) p d e = (d.0, known_push P table p d.1 e)

-- and of the pair at a place
pub known_at : (P : Pair → Type 0) (table : List Pair) (k : ℕ) → AllByRecursion P table
    → k < length table → P (get_or table k (pair 0 0))
known_at P [] k d lt = absurd (omega arith)
known_at P (q ∷ table) zero d lt = d.0
known_at P (q ∷ table) (suc k) d lt = known_at P table k d.1 (omega arith)

-- what holds of a table that a reader keeps
pub record IsKept (classes : ℕ) (table : List Pair) : Type 0 where
  pub recent : IsRecent table
  pub known : AllByRecursion (IsKnown classes) table

-- a table that a reader keeps stays one after a pair of a class that is there
pub kept_pair : (classes : ℕ) (table : List Pair) (p : Pair) → IsKept classes table
    → IsKnown classes p → IsKept classes (after_pair (place_in p table) table p)
kept_pair classes table p h known = go (place_in p table) refl
  where
    go : (o : Option ℕ) → place_in p table ≡ o → IsKept classes (after_pair o table p)
    go (Some k) e = h
    go None e =
        let whole : List Pair = table ++ p ∷ [] in
        let len : length (newest 256 whole) ≡ length whole - (length whole - 256) =
        length-drop (length whole - 256) whole in
        record {
          recent = record {
            few = omega arith;
            differ = differ_drop (length whole - 256) whole (differ_push table p h.recent.differ e);
          };
          known = known_drop (IsKnown classes) (length whole - 256) whole
              (known_push (IsKnown classes) table p h.known known);
        }

-- ---- the table while it changes

-- a pair at the end of a log comes to the end of its later part
drop_push : (n : ℕ) (log : List Pair) (p : Pair) → n ≤ length log
    → drop n (log ++ p ∷ []) ≡ drop n log ++ p ∷ []
drop_push zero log p le = refl
drop_push (suc n) [] p le = absurd (omega arith)
drop_push (suc n) (q ∷ log) p le = drop_push n log p (omega arith)

-- a part that begins one later is the part without its first pair
drop_one : (n : ℕ) (log : List Pair) → drop (n + 1) log ≡ drop 1 (drop n log)
drop_one n log = sym (drop-drop 1 n log)

-- a pair at the end of a log leaves its front
take_push : (n : ℕ) (log : List Pair) (p : Pair) → n ≤ length log
    → take n (log ++ p ∷ []) ≡ take n log
take_push zero log p le = refl
take_push (suc n) [] p le = absurd (omega arith)
take_push (suc n) (q ∷ log) p le = ap (λ (w : List Pair). q ∷ w) (take_push n log p (omega arith))

module _ (log : List Pair) (start kept_start kept_end : ℕ)
    (h : HasTables log start kept_start kept_end) (p : Pair) (new : place_in p (drop start log)
    ≡ None) where
  -- the log with the pair at its end
  abbrev longer : List Pair
  longer = log ++ p ∷ []

  -- it is longer by one
  longer-len : length longer ≡ length log + 1
  longer-len = length-append log (p ∷ [])

  -- what was kept stays
  kept_stays : IsRecent (drop kept_start (take kept_end longer))
  kept_stays =
      subst (λ (w : List Pair). IsRecent (drop kept_start w))
      (sym (take_push kept_end log p h.ends)) h.kept

  -- where the table would be too long it begins one pair later
  pub log_shift : 256 < length longer - start → HasTables longer (start + 1) kept_start kept_end
  log_shift over =
      let e : drop (start + 1) longer ≡ drop 1 (drop start log ++ p ∷ []) = drop_one start longer
      ∙ ap (drop 1) (drop_push start log p h.begins) in
      let begins = h.begins in
      let ends = h.ends in
      let few = h.now.few in
      record {
        begins = omega (arith, longer-len);
        now = record {
          few = omega (arith, length-drop (start + 1) longer, length-drop start log, longer-len);
          differ =
              subst AllDiffer (sym e)
              (differ_drop 1 (drop start log ++ p ∷ [])
              (differ_push (drop start log) p h.now.differ new));
        };
        ends = omega (arith, longer-len);
        order = h.order;
        kept = kept_stays;
      }

  -- else it begins where it did
  pub log_stay : length longer - start ≤ 256 → HasTables longer start kept_start kept_end
  log_stay under =
      let e : drop start longer ≡ drop start log ++ p ∷ [] = drop_push start log p h.begins in
      let begins = h.begins in
      let ends = h.ends in
      record {
        begins = omega (arith, longer-len);
        now = record {
          few = omega (arith, length-drop start longer);
          differ = subst AllDiffer (sym e) (differ_push (drop start log) p h.now.differ new);
        };
        ends = omega (arith, longer-len);
        order = h.order;
        kept = kept_stays;
      }

-- what was kept is the table again
pub log_undo : (log : List Pair) (start kept_start kept_end : ℕ)
    → HasTables log start kept_start kept_end
    → HasTables (take kept_end log) kept_start kept_start kept_end
log_undo log start kept_start kept_end h =
    let len : length (take kept_end log) ≡ kept_end = length-take-le kept_end log h.ends in
    let order = h.order in
    record {
      begins = omega arith;
      now = h.kept;
      ends = omega arith;
      order = h.order;
      kept = subst (λ (w : List Pair). IsRecent (drop kept_start w))
          (sym (take_all kept_end (take kept_end log) (omega arith))) h.kept;
    }
