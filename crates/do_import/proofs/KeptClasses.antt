-- That a class is kept of just the objects that were received or asked for, after each change.
use Rattle.std.specs.FinMap as map
use Rattle.std.proofs.Common.{◌≡◌, ℕ, ◌-◌, Bool, true, false, not, cond, ◌&&◌, ◌||◌, ◌==◌, T}
use Rattle.std.proofs.Common.{if◌then◌else◌, Some, None, is_some, Option, refl, sym, ap, ◌∙◌, subst}
use Rattle.std.specs.{Option.unwrap_or, Cmp.tied_itself, Ordering.{eq_by_cmp, is_eq}}
use Rattle.std.specs.FinMap.{get-empty, get-insert, get-remove, get-retain_keys}
use Rattle.std.specs.declared.cmp.Ordering.{Ordering, TheVariants.{Less, Equal, Greater}}
use Rattle.do_base.specs.names.Names.{ObjectName}
use Rattle.do_class.specs.declared.ids.ClassId.{ClassId}
use Rattle.do_export.specs.Counts.{Counts, entry_cmp, count_of, lowered, others_of}
use Rattle.do_export.proofs.Order.{entry_total, entry_same}
use Rattle.do_import.specs.ByObject.{ClassMap, added, taken_off, first_kept, left_of, home_ended}
use Rattle.do_import.specs.Imported.{KeepsClasses}

-- whether a key is the one that changes
abbrev pub tie : ℕ × ℕ → ℕ × ℕ → Bool
tie k q = eq_by_cmp entry_cmp q k

-- the key of an object
abbrev key : ObjectName → ℕ × ℕ
key o = (o.node, o.serial)

-- what is tested to tie ties
pub tied : (r : Ordering) → is_eq r ≡ true → r ≡ Equal
tied Less e = absurd (subst T (sym e) tt)
tied Equal e = refl
tied Greater e = absurd (subst T (sym e) tt)

-- a test of a choice is the choice of the tests
is_some_cond : {A : Type 0} (b : Bool) (x y : Option A)
    → is_some (cond b x y) ≡ cond b (is_some x) (is_some y)
is_some_cond true x y = refl
is_some_cond false x y = refl

-- anything or true is true
or_true : (x : Bool) → true ≡ (x || true)
or_true true = refl
or_true false = refl

module _ {V : Type 0} where
  -- a map has some keys as another has, but at one key
  abbrev pub OnlyAt : ℕ × ℕ → Bool → map.FinMap entry_cmp V → map.FinMap entry_cmp V → Type 0
  OnlyAt k b old new =
      (q : ℕ × ℕ) → map.contains_key new q ≡ cond (tie k q) b (map.contains_key old q)

  -- a map that does not change
  pub same_at : (m : map.FinMap entry_cmp V) (k : ℕ × ℕ) → OnlyAt k (map.contains_key m k) m m
  same_at m k q = go (tie k q) refl
    where
      -- at that key, and at each other
      go : (b : Bool) → tie k q ≡ b
          → map.contains_key m q ≡ cond b (map.contains_key m k) (map.contains_key m q)
      go true e = ap (map.contains_key m) (entry_same q k (tied _ e))
      go false e = refl

  -- a map with an entry put in
  pub put_at : (m : map.FinMap entry_cmp V) (k : ℕ × ℕ) (v : V)
      → OnlyAt k true m (map.insert m k v)
  put_at m k v q = ap is_some (get-insert entry_total m k v q)
      ∙ is_some_cond (tie k q) (Some v) (map.get m q)

  -- a map with an entry taken out
  pub out_at : (m : map.FinMap entry_cmp V) (k : ℕ × ℕ) → OnlyAt k false m (map.remove m k)
  out_at m k q = ap is_some (get-remove entry_total m k q)
      ∙ is_some_cond (tie k q) None (map.get m q)

  -- what the changed map has at the key
  pub at_self : (old new : map.FinMap entry_cmp V) (k : ℕ × ℕ) (b : Bool) → OnlyAt k b old new
      → map.contains_key new k ≡ b
  at_self old new k b only = only k
      ∙ ap (λ r. cond (is_eq r) b (map.contains_key old k)) (tied_itself entry_total k)

  -- a map that changed at a key is there as it is now
  pub restated : (old new : map.FinMap entry_cmp V) (k : ℕ × ℕ) (b : Bool) → OnlyAt k b old new
      → OnlyAt k (map.contains_key new k) old new
  restated old new k b only q = only q
      ∙ ap (λ c. cond (tie k q) c (map.contains_key old q)) (sym (at_self old new k b only))

-- counts with one taken off at an object
pub off_at : (m : Counts) (o : ObjectName)
    → OnlyAt (key o) (map.contains_key (taken_off m o) (key o)) m (taken_off m o)
off_at m o = none (count_of m o.node o.serial == 0)
  where
    -- the last one goes, or others are left
    last : (b : Bool)
        → OnlyAt (key o) (map.contains_key (if b then map.remove m (key o)
        else map.insert m (key o) (count_of m o.node o.serial - 1)) (key o)) m
        (if b then map.remove m (key o)
        else map.insert m (key o) (count_of m o.node o.serial - 1))
    last true = restated m _ (key o) false (out_at m (key o))
    last false = restated m _ (key o) true (put_at m (key o) (count_of m o.node o.serial - 1))

    -- nothing is taken off where nothing is
    none : (b : Bool)
        → OnlyAt (key o)
        (map.contains_key (if b then m else lowered m o.node o.serial 1) (key o)) m
        (if b then m else lowered m o.node o.serial 1)
    none true = same_at m (key o)
    none false = last (count_of m o.node o.serial == 1)

-- what is there once one was taken off was there before
pub off_before : (m : Counts) (o : ObjectName)
    → map.contains_key (taken_off m o) (key o) ≡ true → map.contains_key m (key o) ≡ true
off_before m o there = go (map.get m (key o)) refl
  where
    -- with a count or without
    go : (found : Option ℕ) → map.get m (key o) ≡ found → map.contains_key m (key o) ≡ true
    go (Some n) e = ap is_some e
    go None e =
        let zero : count_of m o.node o.serial ≡ 0 = ap (λ f. unwrap_or f 0) e in
        let same : taken_off m o ≡ m =
        ap (λ n. if n == 0 then m else lowered m o.node o.serial 1) zero in
        ap (λ c. map.contains_key c (key o)) (sym same) ∙ there

-- classes with the first one kept
pub kept_at : (c : ClassMap) (o : ObjectName) (class : ClassId)
    → OnlyAt (key o) true c (first_kept c o class)
kept_at c o class = go (map.contains_key c (key o)) refl
  where
    -- whether there is a class already or not
    go : (b : Bool) → map.contains_key c (key o) ≡ b
        → OnlyAt (key o) true c (if b then c else map.insert c (key o) class)
    go true e = λ q. same_at c (key o) q
        ∙ ap (λ b. cond (tie (key o) q) b (map.contains_key c q)) e
    go false e = put_at c (key o) class

-- classes without that of an object, unless it stays
pub left_at : (c : ClassMap) (o : ObjectName) (stays : Bool)
    → OnlyAt (key o) (stays && map.contains_key c (key o)) c (left_of c o stays)
left_at c o true = same_at c (key o)
left_at c o false = out_at c (key o)

module _ (r a : Counts) (c : ClassMap) (known : KeepsClasses r a c) where
  -- a change at one key keeps just the classes that it should, if it does so there
  pub reclass : (k : ℕ × ℕ) (r' a' : Counts) (c' : ClassMap) (x y z : Bool) → z ≡ (x || y)
      → OnlyAt k x r r' → OnlyAt k y a a' → OnlyAt k z c c' → KeepsClasses r' a' c'
  reclass k r' a' c' x y z e of_r of_a of_c q = of_c q ∙ go (tie k q)
      ∙ sym (λ i. of_r q i || of_a q i)
    where
      -- at that key, and at each other
      go : (b : Bool) → cond b z (map.contains_key c q)
          ≡ (cond b x (map.contains_key r q) || cond b y (map.contains_key a q))
      go true = e
      go false = known q

  -- an object was received, and its class is kept
  pub got_classes : (o : ObjectName) (class : ClassId)
      → KeepsClasses (added r o) a (first_kept c o class)
  got_classes o class = reclass (key o) _ _ _ true (map.contains_key a (key o)) true refl
      (put_at r (key o) _) (same_at a (key o)) (kept_at c o class)

  -- an object was asked for, and its class is kept
  pub asked_classes : (o : ObjectName) (class : ClassId)
      → KeepsClasses r (added a o) (first_kept c o class)
  asked_classes o class = reclass (key o) _ _ _ (map.contains_key r (key o)) true true
      (or_true (map.contains_key r (key o))) (same_at r (key o)) (put_at a (key o) _)
      (kept_at c o class)

  -- an ask was granted, and the object's class is kept
  pub granted_classes : (o : ObjectName) (class : ClassId)
      → KeepsClasses (added r o) (taken_off a o) (first_kept c o class)
  granted_classes o class =
      reclass (key o) _ _ _ true (map.contains_key (taken_off a o) (key o)) true refl
      (put_at r (key o) _) (off_at a o) (kept_at c o class)

  -- an ask is over, and the object's class stays where it has to
  pub ended_classes : (o : ObjectName) → KeepsClasses r (taken_off a o) (left_of c o
      (map.contains_key r (key o) || map.contains_key (taken_off a o) (key o)))
  ended_classes o =
      reclass (key o) _ _ _ (map.contains_key r (key o))
      (map.contains_key (taken_off a o) (key o)) _
      (stays (map.contains_key r (key o)) (map.contains_key (taken_off a o) (key o)) refl refl)
      (same_at r (key o)) (off_at a o) (left_at c o _)
    where
      -- whether the object is received and asked for, or not
      stays : (x y : Bool) → map.contains_key r (key o) ≡ x
          → map.contains_key (taken_off a o) (key o) ≡ y
          → ((x || y) && map.contains_key c (key o)) ≡ (x || y)
      stays true y is e = known (key o) ∙ ap (λ b. b || map.contains_key a (key o)) is
      stays false true is e = known (key o)
          ∙ ap (λ b. map.contains_key r (key o) || b) (off_before a o e)
          ∙ sym (or_true (map.contains_key r (key o)))
      stays false false is e = refl

  -- an object left, and its class stays where it was asked for
  pub left_classes : (o : ObjectName)
      → KeepsClasses (map.remove r (key o)) a (left_of c o (map.contains_key a (key o)))
  left_classes o = reclass (key o) _ _ _ false (map.contains_key a (key o)) _
      (stays (map.contains_key a (key o)) refl) (out_at r (key o)) (same_at a (key o))
      (left_at c o _)
    where
      -- whether the object is asked for or not
      stays : (y : Bool) → map.contains_key a (key o) ≡ y
          → (y && map.contains_key c (key o)) ≡ y
      stays true e = known (key o) ∙ ap (λ b. map.contains_key r (key o) || b) e
          ∙ sym (or_true (map.contains_key r (key o)))
      stays false e = refl

  -- the objects of a home are forgotten, and the classes of those asked for stay
  pub home_classes : (home : ℕ) → KeepsClasses (others_of r home) a (home_ended c home a)
  home_classes home q =
      ap is_some (get-retain_keys c kept q (λ x e. ap kept (sym (entry_same q x e))))
      ∙ go (q.0 == home) (map.get c q) (map.get r q) (map.contains_key a q) (known q)
      ∙ sym (ap (λ f. is_some f || map.contains_key a q)
      (get-retain_keys r other q (λ x e. ap other (sym (entry_same q x e)))))
    where
      -- whose class stays
      kept : ℕ × ℕ → Bool
      kept k = not (k.0 == home) || map.contains_key a k

      -- who is received still
      other : ℕ × ℕ → Bool
      other k = not (k.0 == home)

      -- at an object of another home, and at one of this
      go : (b : Bool) (f : Option ClassId) (g : Option ℕ) (y : Bool) → is_some f ≡ (is_some g || y)
          → is_some (cond (not b || y) f None) ≡ (is_some (cond (not b) g None) || y)
      go true f g true same = same ∙ sym (or_true (is_some g))
      go true f g false same = refl
      go false f g y same = same

-- where nothing was received or asked for there is no class
pub no_classes : KeepsClasses map.empty map.empty map.empty
no_classes k = ap is_some (get-empty entry_cmp k)
    ∙ sym (λ i. is_some (get-empty {X = ℕ} entry_cmp k i)
    || is_some (get-empty {X = ℕ} entry_cmp k i))
