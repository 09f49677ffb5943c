-- The count of an entry, where one is added or taken off.
use Rattle.std.specs.FinMap as map
use Rattle.std.proofs.Common.{◌≡◌, ℕ, ◌+◌, ◌-◌, ◌<◌, Bool, true, false, cond, ◌&&◌, eqb, ◌==◌}
use Rattle.std.proofs.Common.{arith, Option, Some, None, if◌then◌else◌, eqb-true, refl, ap, ◌∙◌}
use Rattle.std.proofs.lemmas.Bool.{eqb-false, Decides.nat_tests}
use Rattle.std.specs.{Option.unwrap_or, Ordering.eq_by_cmp, FinMap.{get-insert, get-remove}}
use Rattle.do_export.specs.Counts.{Counts, IsPositive, entry_cmp, count_of, raised, lowered}
use Rattle.do_export.proofs.{Order.entry_total, Positive.{put_positive, out_positive}}

-- one at an entry, and none at another
abbrev pub at : ℕ → ℕ → ℕ → ℕ → ℕ
at p s x y = cond ((eqb p x) && (eqb s y)) 1 0

-- two keys tie where both numbers are the same
pub tie : (p s x y : ℕ) → eq_by_cmp entry_cmp (x, y) (p, s) ≡ ((eqb p x) && (eqb s y))
tie p s x y = grind (arith, nat_tests)

-- a choice of counts, read
read : (b : Bool) (v : ℕ) (o : Option ℕ)
    → unwrap_or (cond b (Some v) o) 0 ≡ cond b v (unwrap_or o 0)
read true v o = refl
read false v o = refl

-- keys that tie are one
same_key : (c : Counts) (p s x y : ℕ) → ((eqb p x) && (eqb s y)) ≡ true
    → count_of c x y ≡ count_of c p s
same_key c p s x y e = grind (arith, nat_tests)

-- an entry that is counted once more
pub count-raised : (c : Counts) (p s x y : ℕ)
    → count_of (raised c p s) x y ≡ count_of c x y + at p s x y
count-raised c p s x y =
    ap (λ o. unwrap_or o 0) (get-insert entry_total c (p, s) (count_of c p s + 1) (x, y))
    ∙ read (eq_by_cmp entry_cmp (x, y) (p, s)) (count_of c p s + 1) (map.get c (x, y))
    ∙ ap (λ b. cond b (count_of c p s + 1) (count_of c x y)) (tie p s x y)
    ∙ go ((eqb p x) && (eqb s y)) refl
  where
    -- by whether it is this entry
    go : (b : Bool) → ((eqb p x) && (eqb s y)) ≡ b
        → cond b (count_of c p s + 1) (count_of c x y) ≡ count_of c x y + cond b 1 0
    go true e = let f = same_key c p s x y e in omega arith
    go false e = omega arith

-- one taken off at an entry, where it is counted
module _ (c : Counts) (p s : ℕ) (above : 0 < count_of c p s) where
  -- whether it is the last
  abbrev last : Bool
  last = count_of c p s == 1

  -- what is left at each entry
  pub count-lowered : (x y : ℕ) → count_of (lowered c p s 1) x y + at p s x y ≡ count_of c x y
  count-lowered x y = go last refl
    where
      -- two counts, by whether it is this object
      both : (v : ℕ) → v + 1 ≡ count_of c p s → (b : Bool) → ((eqb p x) && (eqb s y)) ≡ b
          → cond b v (count_of c x y) + cond b 1 0 ≡ count_of c x y
      both v is true e = let f = same_key c p s x y e in omega arith
      both v is false e = omega arith

      -- by whether it is the last
      go : (l : Bool) → last ≡ l
          → count_of (if l then map.remove c (p, s)
          else map.insert c (p, s) (count_of c p s - 1)) x y
          + at p s x y ≡ count_of c x y
      go true is =
          let e : count_of c p s ≡ 1 = eqb-true (count_of c p s) 1 is in
          ap (λ n. n + at p s x y)
          (ap (λ o. unwrap_or o 0) (get-remove entry_total c (p, s) (x, y))
          ∙ none (eq_by_cmp entry_cmp (x, y) (p, s)) (map.get c (x, y))
          ∙ ap (λ b. cond b 0 (count_of c x y)) (tie p s x y))
          ∙ both 0 (omega arith) ((eqb p x) && (eqb s y)) refl
        where
          -- an entry that is taken out counts 0
          none : (b : Bool) (o : Option ℕ)
              → unwrap_or (cond b None o) 0 ≡ cond b 0 (unwrap_or o 0)
          none true o = refl
          none false o = refl
      go false is =
          ap (λ n. n + at p s x y)
          (ap (λ o. unwrap_or o 0)
          (get-insert entry_total c (p, s) (count_of c p s - 1) (x, y))
          ∙ read (eq_by_cmp entry_cmp (x, y) (p, s)) (count_of c p s - 1) (map.get c (x, y))
          ∙ ap (λ b. cond b (count_of c p s - 1) (count_of c x y)) (tie p s x y))
          ∙ both (count_of c p s - 1) (omega arith) ((eqb p x) && (eqb s y)) refl

  -- no entry counts 0 where none did
  pub positive-lowered : IsPositive c → IsPositive (lowered c p s 1)
  positive-lowered positive = go last refl
    where
      -- by whether it is the last
      go : (l : Bool) → last ≡ l
          → IsPositive (if l then map.remove c (p, s) else map.insert c (p, s) (count_of c p s - 1))
      go true is = out_positive c positive (p, s)
      go false is =
          let more = eqb-false (count_of c p s) 1 is in
          put_positive c positive (p, s) (count_of c p s - 1) (omega (arith, above, more))

-- no entry counts 0 where one is added and none did
pub positive-raised : (c : Counts) (p s : ℕ) → IsPositive c → IsPositive (raised c p s)
positive-raised c p s positive = put_positive c positive (p, s) (count_of c p s + 1) (omega arith)
