-- What one more object that leaves changes, from the first on to the last.
use Rattle.std.specs.FinMap as map
use Rattle.std.proofs.Common.{◌≡◌, ℕ, Bool, true, false, cond, not, ◌&&◌, List, ◌∷◌, Some, None}
use Rattle.std.{proofs.Common.{Option, refl, sym, ap, ◌∙◌}, specs.Prelude.is_some}
use Rattle.std.specs.{Ordering.{eq_by_cmp, is_eq, ordering_reverse}, Option.unwrap_or}
use Rattle.std.specs.FinMap.{find, is_sorted, get-remove, get-retain_keys, same_map}
use Rattle.std.specs.{FinMap.Entries.{same_entries, below_all}, declared.cmp.Ordering.Ordering}
use Rattle.std.specs.declared.cmp.Ordering.TheVariants.{Less, Equal, Greater}
use Rattle.do_export.specs.Counts.{Counts, entry_cmp, count_of}
use Rattle.do_import.specs.Held.{NoneLeaves, IsLowestLeaving}
use Rattle.do_leaving.specs.Leavers.{leavers}
use Rattle.do_export.proofs.Order.{entry_total, entry_same}
use Rattle.do_leaving.proofs.LeaversFound.{both, tied, above_all, leaver-find, leaver-sorted}
use Rattle.do_leaving.proofs.LeaversFound.{is_true}

-- an object that may leave was received
leaves_received : (r u : Bool) → (r && not u) ≡ true → (r ≡ true) × (u ≡ false)
leaves_received true false e = (refl, refl)
leaves_received true true e = absurd (cc)
leaves_received false u e = absurd (cc)

-- what is there is its count
is_count : (v : Option ℕ) → is_some v ≡ true → v ≡ Some (unwrap_or v 0)
is_count None e = absurd (cc)
is_count (Some n) e = refl

module _ (received uses : Counts) (o : ℕ × ℕ) (lowest : IsLowestLeaving received uses o) where
  -- the leavers without the lowest
  abbrev others : List ((ℕ × ℕ) × ℕ)
  others = leavers (map.remove received o) uses

  -- the lowest was received and is not used
  pub lowest_is : (map.contains_key received o ≡ true) × (map.contains_key uses o ≡ false)
  lowest_is = leaves_received _ _ lowest.leaves

  -- what the others have at an object
  other-find : (q : ℕ × ℕ) → find entry_cmp q others
      ≡ cond (not (map.contains_key uses q))
      (cond (eq_by_cmp entry_cmp q o) None (map.get received q)) None
  other-find q = leaver-find (map.remove received o) uses q
      ∙ ap (λ v. cond (not (map.contains_key uses q)) v None) (get-remove entry_total received o q)

  -- an object that is neither below nor the same is above
  is_above : (q : ℕ × ℕ) (r : Ordering) → entry_cmp q o ≡ r → is_eq r ≡ false
      → (r ≡ Less → ⊥) → entry_cmp o q ≡ Less
  is_above q Less e f no_less = absurd (no_less refl)
  is_above q Equal e f no_less = absurd (cc)
  is_above q Greater e f no_less = entry_total.antisymm o q ∙ ap ordering_reverse e

  -- the others are above
  others_above : (q : ℕ × ℕ) → is_some (find entry_cmp q others) ≡ true → entry_cmp o q ≡ Less
  others_above q there =
      go (eq_by_cmp entry_cmp q o) (map.contains_key uses q) refl refl
      (ap is_some (sym (other-find q)) ∙ there)
    where
      -- false is not true
      clash : false ≡ true → ⊥
      clash e = cc

      -- at the lowest, and at each other, used or not
      go : (b u : Bool) → eq_by_cmp entry_cmp q o ≡ b → map.contains_key uses q ≡ u
          → is_some (cond (not u) (cond b None (map.get received q)) None) ≡ true
          → entry_cmp o q ≡ Less
      go true true e f h = absurd (clash h)
      go true false e f h = absurd (clash h)
      go false true e f h = absurd (clash h)
      go false false e f h = is_above q (entry_cmp q o) refl e
          (λ less. clash (sym (lowest.none_below q less)
          ∙ (λ i. h i && not (f i))))

  -- what the leavers have at an object is what the lowest and the others have
  at_object : (q : ℕ × ℕ) → cond (not (map.contains_key uses q)) (map.get received q) None
      ≡ cond (eq_by_cmp entry_cmp q o) (Some (count_of received o.0 o.1)) (find entry_cmp q others)
  at_object q = go (eq_by_cmp entry_cmp q o) refl
      ∙ ap (cond (eq_by_cmp entry_cmp q o) (Some (count_of received o.0 o.1))) (sym (other-find q))
    where
      -- at the lowest, and at each other
      go : (b : Bool) → eq_by_cmp entry_cmp q o ≡ b
          → cond (not (map.contains_key uses q)) (map.get received q) None
          ≡ cond b (Some (count_of received o.0 o.1))
          (cond (not (map.contains_key uses q)) (cond b None (map.get received q)) None)
      go true e =
          ap (λ k. cond (not (map.contains_key uses k)) (map.get received k) None)
          (entry_same q o (tied _ e))
          ∙ ap (λ u. cond (not u) (map.get received o) None) lowest_is.1
          ∙ is_count (map.get received o) lowest_is.0
      go false e = refl

  -- the lowest object that may leave is the first of the leavers
  pub first_leaves : leavers received uses ≡ (o, count_of received o.0 o.1) ∷ others
  first_leaves =
      same_entries entry_cmp entry_total entry_same (leavers received uses)
      ((o, count_of received o.0 o.1) ∷ others) (leaver-sorted received uses)
      (both (below_all entry_cmp o others) (is_sorted entry_cmp others)
      (above_all o others others_above)
      (is_true (is_sorted entry_cmp others) (leaver-sorted (map.remove received o) uses)))
      (λ q. leaver-find received uses q ∙ at_object q)

  -- who is used is still there
  pub users_stay : map.retain_keys (map.remove received o) (map.contains_key uses)
      ≡ map.retain_keys received (map.contains_key uses)
  users_stay = same_map entry_total entry_same _ _ (λ q.
      kept (map.remove received o) q
      ∙ ap (λ v. cond (map.contains_key uses q) v None) (get-remove entry_total received o q)
      ∙ go q (eq_by_cmp entry_cmp q o) refl
      ∙ sym (kept received q))
    where
      -- what is kept at an object is what was received of it, where it is used
      kept : (m : Counts) (q : ℕ × ℕ) → map.get (map.retain_keys m (map.contains_key uses)) q
          ≡ cond (map.contains_key uses q) (map.get m q) None
      kept m q = get-retain_keys m (map.contains_key uses) q
          (λ x t. ap (map.contains_key uses) (sym (entry_same q x t)))

      -- at the one that leaves, and at each other
      go : (q : ℕ × ℕ) (b : Bool) → eq_by_cmp entry_cmp q o ≡ b
          → cond (map.contains_key uses q) (cond b None (map.get received q)) None
          ≡ cond (map.contains_key uses q) (map.get received q) None
      go q true e =
          let unused = ap (map.contains_key uses) (entry_same q o (tied _ e)) ∙ lowest_is.1 in
          ap {B = Option ℕ} (λ u. cond u None None) unused
          ∙ sym (ap (λ u. cond u (map.get received q) None) unused)
      go q false e = refl

-- where nothing may leave all that was received is used
pub all_used : (received uses : Counts) → NoneLeaves received uses
    → map.retain_keys received (map.contains_key uses) ≡ received
all_used received uses none = same_map entry_total entry_same _ _ (λ q.
    get-retain_keys received (map.contains_key uses) q
    (λ x t. ap (map.contains_key uses) (sym (entry_same q x t)))
    ∙ go (map.get received q) (map.contains_key uses q) (none q))
  where
    -- with a count or without, used or not
    go : (v : Option ℕ) (u : Bool) → (is_some v && not u) ≡ false → cond u v None ≡ v
    go None true e = refl
    go None false e = refl
    go (Some n) true e = refl
    go (Some n) false e = absurd (cc)
