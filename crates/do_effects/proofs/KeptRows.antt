-- Maps by entries of which those stay whose keys pass a test.
use Rattle.std.specs.FinMap as map
use Rattle.std.proofs.Common.{◌≡◌, ℕ, Bool, true, false, cond, Option, Some, None, List, [], ◌∷◌}
use Rattle.std.proofs.Common.{is_some, fold, refl, ap, sym, ◌∙◌}
use Rattle.std.specs.{FinMap.{get-insert, same_map}, Option.unwrap_or, Ordering.eq_by_cmp}
use Rattle.do_base.specs.names.Names.{ObjectName}
use Rattle.do_class.specs.declared.ids.ClassId.{ClassId}
use Rattle.do_export.{specs.Counts.entry_cmp, proofs.Order.{entry_same, entry_total}}
use Rattle.do_import.specs.ByObject.{ClassMap, first_kept}
use Rattle.do_network.specs.Counting.{Classed, with_class}
use Rattle.do_effects.proofs.TidyCounts.{kept_get, tied}

-- a key ties with another
abbrev tie : ℕ × ℕ → ℕ × ℕ → Bool
tie k q = eq_by_cmp entry_cmp q k

module _ {V : Type 0} where
  -- nothing is there either way
  none_either : (b : Bool) → cond {A = Option V} b None None ≡ None
  none_either true = refl
  none_either false = refl

  -- each key passes of a map that keeps all its rows
  pub passes : (m : map.FinMap entry_cmp V) (p : ℕ × ℕ → Bool) → map.retain_keys m p ≡ m →
      (q : ℕ × ℕ) → map.contains_key m q ≡ true → p q ≡ true
  passes m p e q has = go (p q) refl
    where
      -- a key that does not pass would not be kept
      go : (b : Bool) → p q ≡ b → p q ≡ true
      go true is = is
      go false is =
          let none : map.contains_key m q ≡ false =
          ap is_some (ap (λ x. map.get x q) (sym e) ∙ kept_get m p q
          ∙ ap (λ b. cond b (map.get m q) None) is) in
          absurd (cc)

  -- a map keeps all its rows if each key passes
  pub kept_all : (m : map.FinMap entry_cmp V) (p : ℕ × ℕ → Bool) →
      ((q : ℕ × ℕ) → map.contains_key m q ≡ true → p q ≡ true) → map.retain_keys m p ≡ m
  kept_all m p all =
      same_map entry_total entry_same _ _ (λ q. kept_get m p q ∙ go q (map.get m q) refl)
    where
      -- with a row at a key or without
      go : (q : ℕ × ℕ) (o : Option V) → map.get m q ≡ o →
          cond (p q) (map.get m q) None ≡ map.get m q
      go q None e = ap (λ o. cond (p q) o None) e ∙ none_either (p q) ∙ sym e
      go q (Some v) e = ap (λ b. cond b (map.get m q) None) (all q (ap is_some e))

  -- a map that keeps all its rows keeps them by a wider test
  pub wider : (m : map.FinMap entry_cmp V) (p r : ℕ × ℕ → Bool) →
      ((q : ℕ × ℕ) → p q ≡ true → r q ≡ true) → map.retain_keys m p ≡ m →
      map.retain_keys m r ≡ m
  wider m p r up e = kept_all m r (λ q has. up q (passes m p e q has))

  -- one row more is kept, too, by a wider test that its key passes
  pub put_kept : (m : map.FinMap entry_cmp V) (p r : ℕ × ℕ → Bool) (k : ℕ × ℕ) (v : V) →
      ((q : ℕ × ℕ) → p q ≡ true → r q ≡ true) → r k ≡ true → map.retain_keys m p ≡ m →
      map.retain_keys (map.insert m k v) r ≡ map.insert m k v
  put_kept m p r k v up is e = kept_all (map.insert m k v) r (λ q has.
      go q (tie k q) refl (sym (ap is_some (get-insert entry_total m k v q)) ∙ has))
    where
      -- at the key of the new row, and at each other
      go : (q : ℕ × ℕ) (b : Bool) → tie k q ≡ b →
          is_some (cond b (Some v) (map.get m q)) ≡ true → r q ≡ true
      go q true same has = ap r (entry_same q k (tied _ same)) ∙ is
      go q false other has = up q (passes m p e q has)

  -- two maps are the same at each key that passes
  abbrev pub Agree : (ℕ × ℕ → Bool) → map.FinMap entry_cmp V → map.FinMap entry_cmp V → Type 0
  Agree p a b = (q : ℕ × ℕ) → p q ≡ true → map.get a q ≡ map.get b q

  -- and then what they keep of these is the same
  pub kept_agree : (p : ℕ × ℕ → Bool) (a b : map.FinMap entry_cmp V) → Agree p a b →
      map.retain_keys a p ≡ map.retain_keys b p
  kept_agree p a b agree = same_map entry_total entry_same _ _ (λ q.
      kept_get a p q ∙ go q (p q) refl ∙ sym (kept_get b p q))
    where
      -- whether the key passes or not
      go : (q : ℕ × ℕ) (t : Bool) → p q ≡ t →
          cond t (map.get a q) None ≡ cond t (map.get b q) None
      go q true is = agree q is
      go q false is = refl

-- the key of an object
abbrev key : ObjectName → ℕ × ℕ
key o = (o.node, o.serial)

-- what is there is there, whatever stood for it
some_same : (o : Option ClassId) (k : ClassId) → is_some o ≡ true → o ≡ Some (unwrap_or o k)
some_same None k has = absurd (cc)
some_same (Some v) k has = refl

-- what stands for what is not there
none_same : (o : Option ClassId) (k : ClassId) → is_some o ≡ false → Some k ≡ Some (unwrap_or o k)
none_same None k has = refl
none_same (Some v) k has = absurd (cc)

-- the class of each object, once one is kept of an object
first_kept_get : (c : ClassMap) (o : ObjectName) (k : ClassId) (q : ℕ × ℕ) →
    map.get (first_kept c o k) q
    ≡ cond (tie (key o) q) (Some (unwrap_or (map.get c q) k)) (map.get c q)
first_kept_get c o k q = by_key (map.contains_key c (key o)) refl
  where
    -- where a class is there already
    there : (b : Bool) → tie (key o) q ≡ b → map.contains_key c (key o) ≡ true →
        map.get c q ≡ cond b (Some (unwrap_or (map.get c q) k)) (map.get c q)
    there true same has = some_same (map.get c q) k
        (ap (map.contains_key c) (entry_same q (key o) (tied _ same)) ∙ has)
    there false other has = refl

    -- where none is there yet
    new : (b : Bool) → tie (key o) q ≡ b → map.contains_key c (key o) ≡ false →
        cond b (Some k) (map.get c q)
        ≡ cond b (Some (unwrap_or (map.get c q) k)) (map.get c q)
    new true same has = none_same (map.get c q) k
        (ap (map.contains_key c) (entry_same q (key o) (tied _ same)) ∙ has)
    new false other has = refl

    -- in either case
    by_key : (b : Bool) → map.contains_key c (key o) ≡ b →
        map.get (cond b c (map.insert c (key o) k)) q
        ≡ cond (tie (key o) q) (Some (unwrap_or (map.get c q) k)) (map.get c q)
    by_key true has = there (tie (key o) q) refl has
    by_key false has =
        get-insert entry_total c (key o) k q ∙ new (tie (key o) q) refl has

-- the first class is kept where there is one
pub kept_there : (c : ClassMap) (o : ObjectName) (k : ClassId) →
    map.contains_key c (key o) ≡ true → first_kept c o k ≡ c
kept_there c o k has = ap (λ b. cond b c (map.insert c (key o) k)) has

-- a class is kept by a wider test that its object passes
pub first_stays : (c : ClassMap) (p r : ℕ × ℕ → Bool) (o : ObjectName) (k : ClassId) →
    ((q : ℕ × ℕ) → p q ≡ true → r q ≡ true) → r (key o) ≡ true → map.retain_keys c p ≡ c →
    map.retain_keys (first_kept c o k) r ≡ first_kept c o k
first_stays c p r o k up is e = go (map.contains_key c (key o))
  where
    -- whether a class is there already or not
    go : (b : Bool) → map.retain_keys (cond b c (map.insert c (key o) k)) r
        ≡ cond b c (map.insert c (key o) k)
    go true = wider c p r up e
    go false = put_kept c p r (key o) k up is e

-- the class of an object that does not pass changes nothing at those that do
pub agree_dropped : (p : ℕ × ℕ → Bool) (c : ClassMap) (o : ObjectName) (k : ClassId) →
    p (key o) ≡ false → Agree p (first_kept c o k) c
agree_dropped p c o k not q is = first_kept_get c o k q ∙ go (tie (key o) q) refl
  where
    -- at the key of the object, which does not pass, and at each other
    go : (b : Bool) → tie (key o) q ≡ b →
        cond b (Some (unwrap_or (map.get c q) k)) (map.get c q) ≡ map.get c q
    go true same =
        let fails : p q ≡ false = ap p (entry_same q (key o) (tied _ same)) ∙ not in absurd (cc)
    go false other = refl

-- classes that are the same at keys that pass stay so
pub agree_all : (p : ℕ × ℕ → Bool) (cs : List Classed) (a b : ClassMap) → Agree p a b →
    Agree p (fold with_class a cs) (fold with_class b cs)
agree_all p [] a b agree = agree
agree_all p (x ∷ cs) a b agree = agree_all p cs _ _ (λ q is.
    first_kept_get a x.object x.class q
    ∙ ap (λ g. cond (tie (key x.object) q) (Some (unwrap_or g x.class)) g) (agree q is)
    ∙ sym (first_kept_get b x.object x.class q))
