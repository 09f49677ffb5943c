-- The rows of a map, and how many of them pass a test, once one is put in or some are taken out.
use Rattle.std.specs.FinMap as map
use Rattle.std.proofs.Common.{◌≡◌, ◌+◌, Bool, true, false, cond, not, T, List, [], ◌∷◌, Option}
use Rattle.std.proofs.Common.{Some, None, is_some, count_by, filter, map as each, length, refl, sym}
use Rattle.std.proofs.{Common.{ap, ◌∙◌, subst, arith}, lemmas.List.Sums.sum_by-cons}
use Rattle.std.specs.{Cmp.{IsTotalOrder, eq_by_cmp_equiv, tied_itself}, Ordering.{eq_by_cmp, is_eq}}
use Rattle.std.specs.FinMap.{IsAntisymmetric, entries_sorted, get-entries, get-insert, get-remove}
use Rattle.std.specs.FinMap.{get-retain_keys, entries-insert, len-empty, len-entries, same_map}
use Rattle.std.specs.FinMap.Entries.{find, put, by_order, where_key, find-where_key}
use Rattle.std.specs.FinMap.Entries.{is_sorted-where_key, same_entries}
use Rattle.std.specs.declared.cmp.Ordering.{Ordering, TheVariants.{Less, Equal, Greater}}

-- one more in front
pub in_front : {Y : Type 0} (p : Y → Bool) (y : Y) (ys : List Y)
    → count_by p (y ∷ ys) ≡ cond (p y) 1 0 + count_by p ys
in_front p y ys = sum_by-cons (λ z. cond (p z) 1 0) y ys

-- a list of no items is empty
no_items : {X : Type 0} (xs : List X) → length xs ≡ 0 → xs ≡ []
no_items [] e = refl
no_items (x ∷ xs) e = absurd (omega (arith, e))

-- an empty map has no rows
pub entries-empty : {K : Type 0} (R : K → K → Ordering) (V : Type 0)
    → map.entries (map.empty {X = V} {R = R}) ≡ []
entries-empty R V = no_items (map.entries (map.empty {X = V} {R = R}))
    (sym (len-entries {R = R} map.empty) ∙ len-empty R V)

module _ {K V : Type 0} {R : K → K → Ordering} (total : IsTotalOrder R)
    (same : IsAntisymmetric R) where
  -- the rows whose keys pass are those of the map of these keys
  pub entries-retain : (m : map.FinMap R V) (p : K → Bool)
      → map.entries (map.retain_keys m p) ≡ where_key R p (map.entries m)
  entries-retain m p = same_entries R total same _ _ (entries_sorted (map.retain_keys m p))
      (is_sorted-where_key R p (map.entries m) (entries_sorted m))
      (λ q. sym (get-entries (map.retain_keys m p) q) ∙ get-retain_keys m p q (alike q)
      ∙ ap (λ v. cond (p q) v None) (get-entries m q)
      ∙ sym (find-where_key R p q (alike q) (map.entries m)))
    where
      -- keys that are equal pass alike
      alike : (q x : K) → R q x ≡ Equal → p x ≡ p q
      alike q x e = ap p (sym (same q x e))

  -- the rows once one is taken out
  pub entries-remove : (m : map.FinMap R V) (k : K)
      → map.entries (map.remove m k) ≡ where_key R (λ x. not (eq_by_cmp R k x)) (map.entries m)
  entries-remove m k =
      ap map.entries (same_map total same (map.remove m k)
      (map.retain_keys m (λ x. not (eq_by_cmp R k x))) (λ q.
      get-remove total m k q
      ∙ ap (λ b. cond b None (map.get m q)) ((eq_by_cmp_equiv total).symm q k)
      ∙ turned (eq_by_cmp R k q) (map.get m q)
      ∙ sym (get-retain_keys m (λ x. not (eq_by_cmp R k x)) q
      (λ x e. ap (λ y. not (eq_by_cmp R k y)) (sym (same q x e))))))
      ∙ entries-retain m (λ x. not (eq_by_cmp R k x))
    where
      -- to leave one out is to keep the others
      turned : (b : Bool) (o : Option V) → cond b None o ≡ cond (not b) o None
      turned true o = refl
      turned false o = refl

  module _ {Y : Type 0} (f : K × V → Y) (p : Y → Bool) where
    -- how many rows pass, once one is put in at a key that was not there
    count_put : (k : K) (v : V) (es : List (K × V)) → find R k es ≡ None
        → count_by p (each f (put R k v es))
        ≡ count_by p (each f es) + cond (p (f (k, v))) 1 0
    count_put k v [] none = let x = in_front p (f (k, v)) [] in omega (arith, x)
    count_put k v (e ∷ es) none = go (λ later. count_put k v es later) (R k e.0) none
      where
        -- by where the key stands
        go : (find R k es ≡ None → count_by p (each f (put R k v es))
            ≡ count_by p (each f es) + cond (p (f (k, v))) 1 0)
            → (r : Ordering) → cond (is_eq r) (Some e.1) (find R k es) ≡ None
            → count_by p (each f (by_order r ((k, v) ∷ e ∷ es) ((e.0, v) ∷ es) (e ∷ put R k v es)))
            ≡ count_by p (each f (e ∷ es)) + cond (p (f (k, v))) 1 0
        go rest Less found = let x = in_front p (f (k, v)) (each f (e ∷ es)) in omega (arith, x)
        go rest Equal found = absurd (subst T (ap is_some found) tt)
        go rest Greater found =
            let x = in_front p (f e) (each f (put R k v es)) in
            let y = in_front p (f e) (each f es) in
            let z = rest found in
            omega (arith, x, y, z)

    -- how many rows of a map pass, once one is put in that was not there
    pub rows_put : (m : map.FinMap R V) (k : K) (v : V) → map.get m k ≡ None
        → count_by p (each f (map.entries (map.insert m k v)))
        ≡ count_by p (each f (map.entries m)) + cond (p (f (k, v))) 1 0
    rows_put m k v none =
        ap (λ es. count_by p (each f es)) (entries-insert total m k v)
        ∙ count_put k v (map.entries m) (sym (get-entries m k) ∙ none)

    -- and once one is taken out
    pub rows_out : (m : map.FinMap R V) (k : K) (v : V) → map.get m k ≡ Some v
        → count_by p (each f (map.entries m))
        ≡ count_by p (each f (map.entries (map.remove m k))) + cond (p (f (k, v))) 1 0
    rows_out m k v is = ap (λ n. count_by p (each f (map.entries n))) (sym back)
        ∙ rows_put (map.remove m k) k v
        (get-remove total m k k
        ∙ ap (λ r. cond (is_eq r) None (map.get m k)) (tied_itself total k))
      where
        -- a row that is taken out and put in again
        back : map.insert (map.remove m k) k v ≡ m
        back = same_map total same _ _ (λ q.
            get-insert total (map.remove m k) k v q
            ∙ ap (cond (eq_by_cmp R q k) (Some v)) (get-remove total m k q)
            ∙ go q (R q k) refl)
          where
            -- at that key, and at each other
            go : (q : K) (r : Ordering) → R q k ≡ r
                → cond (is_eq r) (Some v) (cond (is_eq r) None (map.get m q)) ≡ map.get m q
            go q Less e = refl
            go q Equal e = sym is ∙ ap (map.get m) (sym (same q k e))
            go q Greater e = refl

    -- as many pass as among the rows of some keys and among those of the others
    pub count_split : (t : K × V → Bool) (es : List (K × V))
        → count_by p (each f es) ≡ count_by p (each f (filter (λ e. not (t e)) es))
        + count_by p (each f (filter t es))
    count_split t [] = refl
    count_split t (e ∷ es) = go (t e) (count_split t es)
      where
        -- whether the first row is of these keys or of the others
        go : (b : Bool) → count_by p (each f es)
            ≡ count_by p (each f (filter (λ e. not (t e)) es)) + count_by p (each f (filter t es))
            → count_by p (each f (e ∷ es))
            ≡ count_by p (each f (cond (not b) (e ∷ filter (λ e. not (t e)) es)
            (filter (λ e. not (t e)) es)))
            + count_by p (each f (cond b (e ∷ filter t es) (filter t es)))
        go true rest =
            let x = in_front p (f e) (each f es) in
            let y = in_front p (f e) (each f (filter t es)) in
            omega (arith, rest, x, y)
        go false rest =
            let x = in_front p (f e) (each f es) in
            let y = in_front p (f e) (each f (filter (λ e. not (t e)) es)) in
            omega (arith, rest, x, y)
