-- What each change of the counts asks of the thread of objects that may leave.
use Rattle.std.specs.FinMap as map
use Rattle.std.proofs.Common.{◌≡◌, ℕ, ◌+◌, ◌-◌, ◌<◌, arith, Bool, true, false, not, cond, ◌&&◌}
use Rattle.std.proofs.Common.{◌==◌, ◌||◌, T, List, [], ◌∷◌, Some, None, is_some, slice_get}
use Rattle.std.proofs.Common.{if◌then◌else◌, refl, sym, ap, ◌∙◌, subst, Option}
use Rattle.std.{proofs.lemmas.Bool.{eq-eqb, ne_eqb}, specs.Ordering.{eq_by_cmp, is_eq}}
use Rattle.std.specs.{Cmp.{alike_right, eq_by_cmp_equiv, tied_itself}, FinMap.{find, put}}
use Rattle.std.specs.FinMap.{is_sorted, get-insert, get-remove, get-retain_keys, Entries.where_key}
use Rattle.std.specs.FinMap.Entries.{is_sorted-put, is_sorted-where_key, find-put, find-where_key}
use Rattle.std.specs.declared.cmp.Ordering.{Ordering, TheVariants.{Less, Equal, Greater}}
use Rattle.do_sorted.{specs.Rows.without, proofs.RowOrGap.{first, find_below, below_first}}
use Rattle.do_export.specs.Counts.{Counts, entry_cmp, count_of, lowered, others_of}
use Rattle.do_export.proofs.Order.{entry_total, entry_same, some_above}
use Rattle.do_import.specs.Held.{IsThread, NoneLeaves, IsLowestLeaving}

-- a row of the thread
abbrev Row : Type 0
Row = (ℕ × ℕ) × Unit {0}

-- what is tested to tie ties
tied : (r : Ordering) → is_eq r ≡ true → r ≡ Equal
tied Less e = absurd (subst T (sym e) tt)
tied Equal e = refl
tied Greater e = absurd (subst T (sym e) tt)

-- a test of a choice is the choice of the tests
is_some_cond : {A : Type 0} (b : Bool) (x y : Option A)
    → is_some (cond b x y) ≡ cond b (is_some x) (is_some y)
is_some_cond true x y = refl
is_some_cond false x y = refl

-- to choose by the opposite is to choose the other way round
turned : {A : Type 0} (b : Bool) (x y : A) → cond (not b) x y ≡ cond b y x
turned true x y = refl
turned false x y = refl

-- nothing and false is false
pub and_false : (x : Bool) → x && false ≡ false
and_false true = refl
and_false false = refl

-- what does not change at a key is there as it was
unchanged : (f : ℕ × ℕ → Bool) (k q : ℕ × ℕ) → f q ≡ cond (eq_by_cmp entry_cmp q k) (f k) (f q)
unchanged f k q = go (eq_by_cmp entry_cmp q k) refl
  where
    -- at that key, and at each other
    go : (b : Bool) → eq_by_cmp entry_cmp q k ≡ b → f q ≡ cond b (f k) (f q)
    go true e = ap f (entry_same q k (tied _ e))
    go false e = refl

-- an entry put in is there, and the others as before
inserted : (m : Counts) (k : ℕ × ℕ) (v : ℕ) (q : ℕ × ℕ)
    → map.contains_key (map.insert m k v) q ≡ cond (eq_by_cmp entry_cmp q k) true
    (map.contains_key m q)
inserted m k v q = ap is_some (get-insert entry_total m k v q)
    ∙ is_some_cond (eq_by_cmp entry_cmp q k) (Some v) (map.get m q)

-- an entry taken out is not there, and the others as before
removed : (m : Counts) (k q : ℕ × ℕ)
    → map.contains_key (map.remove m k) q ≡ cond (eq_by_cmp entry_cmp q k) false
    (map.contains_key m q)
removed m k q = ap is_some (get-remove entry_total m k q)
    ∙ is_some_cond (eq_by_cmp entry_cmp q k) None (map.get m q)

-- an object put into the thread is there, and the others as before
threaded : (k : ℕ × ℕ) (es : List Row) (q : ℕ × ℕ)
    → is_some (find entry_cmp q (put entry_cmp k tt es)) ≡ cond (eq_by_cmp entry_cmp q k) true
    (is_some (find entry_cmp q es))
threaded k es q = ap is_some (find-put entry_cmp entry_total q k tt es)
    ∙ is_some_cond (eq_by_cmp entry_cmp q k) (Some tt) (find entry_cmp q es)

-- an object taken out of the thread is not there, and the others as before
taken_out : (k : ℕ × ℕ) (es : List Row) (q : ℕ × ℕ)
    → is_some (find entry_cmp q (without entry_cmp k es)) ≡ cond (eq_by_cmp entry_cmp q k) false
    (is_some (find entry_cmp q es))
taken_out k es q =
    ap is_some (find-where_key entry_cmp (λ x. not (eq_by_cmp entry_cmp k x)) q
    (λ x t. ap (λ r. not (is_eq r)) (sym (alike_right entry_total q x k t))) es
    ∙ turned (eq_by_cmp entry_cmp k q) _ _
    ∙ ap (λ b. cond b None (find entry_cmp q es)) ((eq_by_cmp_equiv entry_total).symm k q))
    ∙ is_some_cond (eq_by_cmp entry_cmp q k) None (find entry_cmp q es)

-- a change at one key of the counts and of the thread
module _ (received uses : Counts) (es : List Row) (t : IsThread received uses es) (k : ℕ × ℕ) where
  -- whether a key is the one that changes
  abbrev tie : ℕ × ℕ → Bool
  tie q = eq_by_cmp entry_cmp q k

  -- a change of counts and thread at one key leaves the thread right, if it is right there
  rethread : (received' uses' : Counts) (es' : List Row) (r u a : Bool)
      → T (is_sorted entry_cmp es') → a ≡ (r && not u)
      → ((q : ℕ × ℕ) → map.contains_key received' q ≡ cond (tie q) r (map.contains_key received q))
      → ((q : ℕ × ℕ) → map.contains_key uses' q ≡ cond (tie q) u (map.contains_key uses q))
      → ((q : ℕ × ℕ)
      → is_some (find entry_cmp q es') ≡ cond (tie q) a (is_some (find entry_cmp q es)))
      → IsThread received' uses' es'
  rethread received' uses' es' r u a s e rs us ts =
      record { sorted = s; each = λ q. ts q ∙ go q (tie q) ∙ sym (λ i. rs q i && not (us q i)) }
    where
      -- at that key, and at each other
      go : (q : ℕ × ℕ) (b : Bool)
          → cond b a (is_some (find entry_cmp q es))
          ≡ (cond b r (map.contains_key received q) && not (cond b u (map.contains_key uses q)))
      go q true = e
      go q false = t.each q

  -- an object that is used or was received stays as it is in the thread
  pub got_kept : (v : ℕ) (kept : Bool) (es' : List Row)
      → kept ≡ (map.contains_key uses k || map.contains_key received k)
      → es' ≡ (if kept then es else put entry_cmp k tt es)
      → IsThread (map.insert received k v) uses es'
  got_kept v kept es' is e =
      go kept (map.contains_key uses k) (map.contains_key received k) refl refl is e
    where
      -- what is used or received leaves for its uses alone
      truth : (u r : Bool) → true ≡ (u || r) → (r && not u) ≡ (true && not u)
      truth true r h = and_false r
      truth false true h = refl
      truth false false h = absurd (subst T h tt)

      -- what is neither is not used
      untruth : (u r : Bool) → false ≡ (u || r) → true ≡ (true && not u)
      untruth true r h = absurd (subst T (sym h) tt)
      untruth false r h = refl

      -- whether the object is used and was received, or not
      go : (g u r : Bool) → map.contains_key uses k ≡ u → map.contains_key received k ≡ r
          → g ≡ (u || r) → es' ≡ (if g then es else put entry_cmp k tt es)
          → IsThread (map.insert received k v) uses es'
      go true u r pu pr g e = subst (IsThread (map.insert received k v) uses) (sym e)
          (rethread _ _ es true (map.contains_key uses k) (is_some (find entry_cmp k es)) t.sorted
          (t.each k ∙ (λ i. pr i && not (pu i)) ∙ truth u r g ∙ sym (ap (λ x. true && not x) pu))
          (inserted received k v) (unchanged (map.contains_key uses) k)
          (unchanged (λ q. is_some (find entry_cmp q es)) k))
      go false u r pu pr g e = subst (IsThread (map.insert received k v) uses) (sym e)
          (rethread _ _ _ true (map.contains_key uses k) true
          (is_sorted-put entry_cmp entry_total k tt es t.sorted)
          (untruth u r g ∙ sym (ap (λ x. true && not x) pu))
          (inserted received k v) (unchanged (map.contains_key uses) k) (threaded k es))

  -- an object that is used leaves the thread
  pub refer_threaded : (v : ℕ) (es' : List Row) → es' ≡ without entry_cmp k es
      → IsThread received (map.insert uses k v) es'
  refer_threaded v es' e = subst (IsThread received (map.insert uses k v)) (sym e)
      (rethread _ _ _ (map.contains_key received k) true false
      (is_sorted-where_key entry_cmp _ es t.sorted) (sym (and_false _))
      (unchanged (map.contains_key received) k) (inserted uses k v) (taken_out k es))

  -- an object that left is out of the thread
  pub leave_threaded : (es' : List Row) → es' ≡ without entry_cmp k es
      → IsThread (map.remove received k) uses es'
  leave_threaded es' e = subst (IsThread (map.remove received k) uses) (sym e)
      (rethread _ _ _ false (map.contains_key uses k) false
      (is_sorted-where_key entry_cmp _ es t.sorted) refl
      (removed received k) (unchanged (map.contains_key uses) k) (taken_out k es))

  -- an object whose last use is gone is threaded, if it was received
  pub unrefer_threaded : (gone : Bool) (es' : List Row) → gone ≡ not (map.contains_key received k)
      → es' ≡ (if gone then es else put entry_cmp k tt es)
      → IsThread received (map.remove uses k) es'
  unrefer_threaded gone es' is e = go gone (map.contains_key received k) refl is e
    where
      -- whether the object was received or not
      go : (g b : Bool) → map.contains_key received k ≡ b → g ≡ not b
          → es' ≡ (if g then es else put entry_cmp k tt es)
          → IsThread received (map.remove uses k) es'
      go true true b g e = absurd (subst T g tt)
      go false false b g e = absurd (subst T (sym g) tt)
      go true false b g e = subst (IsThread received (map.remove uses k)) (sym e)
          (rethread _ _ es (map.contains_key received k) false (is_some (find entry_cmp k es))
          t.sorted
          (t.each k ∙ ap (λ r. r && not (map.contains_key uses k)) b ∙ sym (ap (λ r. r && true) b))
          (unchanged (map.contains_key received) k) (removed uses k)
          (unchanged (λ q. is_some (find entry_cmp q es)) k))
      go false true b g e = subst (IsThread received (map.remove uses k)) (sym e)
          (rethread _ _ _ (map.contains_key received k) false true
          (is_sorted-put entry_cmp entry_total k tt es t.sorted) (sym (ap (λ r. r && true) b))
          (unchanged (map.contains_key received) k) (removed uses k) (threaded k es))

  -- an object that is used still stays out of the thread
  pub still_threaded : (v : ℕ) → map.contains_key uses k ≡ true
      → IsThread received (map.insert uses k v) es
  still_threaded v is =
      rethread _ _ es (map.contains_key received k) true (is_some (find entry_cmp k es)) t.sorted
      (t.each k ∙ ap (λ b. map.contains_key received k && not b) is)
      (unchanged (map.contains_key received) k) (inserted uses k v)
      (unchanged (λ q. is_some (find entry_cmp q es)) k)

-- where the objects of a home are forgotten, in the counts and in the thread
pub ended_threaded : (received uses : Counts) (es es' : List Row) (home : ℕ)
    → IsThread received uses es → es' ≡ where_key entry_cmp (λ k. not (k.0 == home)) es
    → IsThread (others_of received home) uses es'
ended_threaded received uses es es' home t e =
    subst (IsThread (others_of received home) uses) (sym e) (record {
      sorted = is_sorted-where_key entry_cmp p es t.sorted;
      each = λ q.
          ap is_some (find-where_key entry_cmp p q (λ x same. ap p (sym (entry_same q x same))) es)
          ∙ go (p q) (find entry_cmp q es) (map.get received q) (map.contains_key uses q) (t.each q)
          ∙ sym (ap (λ o. is_some o && not (map.contains_key uses q))
          (get-retain_keys received p q (λ x same. ap p (sym (entry_same q x same)))));
    })
  where
    -- whether an object has another home
    p : ℕ × ℕ → Bool
    p k = not (k.0 == home)

    -- at an object of another home, and at one of this
    go : (b : Bool) (f : Option (Unit {0})) (g : Option ℕ) (u : Bool)
        → is_some f ≡ (is_some g && not u)
        → is_some (cond b f None) ≡ (is_some (cond b g None) && not u)
    go true f g u same = same
    go false f g u same = refl

-- what is said of one value is said of the value that it is
some_is : {A : Type 0} (x y : A) (P : A → Type 0) → Some x ≡ Some y → P x → P y
some_is x y P e p = subst P (ap (λ v. Rattle.std.specs.Option.unwrap_or v x) e) p

-- the thread's first row is the lowest object that may leave
module _ (received uses : Counts) where
  -- where the thread has no row, no object may leave
  pub none_leaves : (es : List Row) → IsThread received uses es → slice_get es 0 ≡ None
      → NoneLeaves received uses
  none_leaves [] t e q = sym (t.each q)
  none_leaves (f ∷ es) t e q = absurd (subst T (ap is_some e) tt)

  -- the thread's first row is the lowest object that may leave
  pub lowest_leaves : (es : List Row) (x : Row) → IsThread received uses es
      → slice_get es 0 ≡ Some x → IsLowestLeaving received uses x.0
  lowest_leaves [] x t e = absurd (subst T (ap is_some (sym e)) tt)
  lowest_leaves (f ∷ es) x t e = some_is f x (λ y. IsLowestLeaving received uses y.0) e (record {
    leaves = sym (t.each f.0)
        ∙ ap (λ r. is_some (cond (is_eq r) (Some f.1) (find entry_cmp f.0 es)))
        (tied_itself entry_total f.0);
    none_below = λ q l. sym (t.each q)
        ∙ ap (λ r. is_some (cond (is_eq r) (Some f.1) (find entry_cmp q es))) l
        ∙ ap is_some (find_below entry_total q es
        (below_first entry_total q f es l (first _ _ t.sorted)));
  })

-- a use less, where some are left, and where none is
pub lowered_some : (uses : Counts) (home serial left : ℕ) → left + 1 ≡ count_of uses home serial
    → 0 < left → lowered uses home serial 1 ≡ map.insert uses (home, serial)
    (count_of uses home serial - 1)
lowered_some uses home serial left e h =
    let apart : count_of uses home serial ≡ 1 → ⊥ = λ is. omega (arith, e, is, h) in
    rw (ne_eqb _ _ apart) refl

-- where the last use goes, the entry is taken out
pub lowered_last : (uses : Counts) (home serial left : ℕ) → left + 1 ≡ count_of uses home serial
    → left ≡ 0 → lowered uses home serial 1 ≡ map.remove uses (home, serial)
lowered_last uses home serial left e h =
    let same : count_of uses home serial ≡ 1 = omega (arith, e, h) in
    rw (eq-eqb _ _ same) refl

-- what is used has an entry
pub used_some : (uses : Counts) (home serial left : ℕ) → left + 1 ≡ count_of uses home serial
    → map.contains_key uses (home, serial) ≡ true
used_some uses home serial left e = some_above (map.get uses (home, serial)) (omega (arith, e))
