-- Which keys a map has once one is put in or some are taken out.
use Rattle.std.specs.FinMap as map
use Rattle.std.{specs.Prelude.{suc, zero}, proofs.Common.{◌≡◌, ℕ, ◌-◌, ◌<◌, arith, Bool, true}}
use Rattle.std.proofs.Common.{false, cond, T, Option, Some, None, is_some, refl, sym, ap, ◌∙◌}
use Rattle.std.{proofs.Common.subst, specs.Cmp.{IsTotalOrder, tied_itself}}
use Rattle.std.specs.{Ordering.{eq_by_cmp, is_eq}, FinMap.{IsAntisymmetric, get-insert, get-remove}}
use Rattle.std.specs.FinMap.{get-retain_keys, same_map, empty_of_len, get-empty, len-remove}
use Rattle.std.specs.declared.cmp.Ordering.{Ordering, TheVariants.{Less, Equal, Greater}}

-- what ties is that key
pub tied : {K : Type 0} {R : K → K → Ordering} → IsAntisymmetric R → (k q : K)
    → eq_by_cmp R q k ≡ true → q ≡ k
tied {K} {R} same k q e = same q k (is (R q k) e)
  where
    is : (r : Ordering) → is_eq r ≡ true → r ≡ Equal
    is Less e = absurd (subst T (sym e) tt)
    is Equal e = refl
    is Greater e = absurd (subst T (sym e) tt)

module _ {K V : Type 0} {R : K → K → Ordering} (total : IsTotalOrder R)
    (same : IsAntisymmetric R) where
  -- what holds of a key that is put in, and of those that were there, holds of all
  pub put_has : (m : map.FinMap R V) (k : K) (v : V) (P : K → Type 0) → P k
      → ((q : K) → map.contains_key m q ≡ true → P q) → (q : K)
      → map.contains_key (map.insert m k v) q ≡ true → P q
  put_has m k v P here others q there =
      go (eq_by_cmp R q k) refl (ap is_some (sym (get-insert total m k v q)) ∙ there)
    where
      go : (b : Bool) → eq_by_cmp R q k ≡ b → is_some (cond b (Some v) (map.get m q)) ≡ true → P q
      go true e h = subst P (sym (tied same k q e)) here
      go false e h = others q h

  -- what is there with a key taken out was there
  pub out_has : (m : map.FinMap R V) (k q : K) → map.contains_key (map.remove m k) q ≡ true
      → map.contains_key m q ≡ true
  out_has m k q there =
      go (eq_by_cmp R q k) (map.get m q) (ap is_some (sym (get-remove total m k q)) ∙ there)
    where
      go : (b : Bool) (o : Option V) → is_some (cond b None o) ≡ true → is_some o ≡ true
      go true o e = absurd (subst T (sym e) tt)
      go false o e = e

  -- what a map has of which some keys stay
  pub retain_get : (m : map.FinMap R V) (p : K → Bool) (q : K)
      → map.get (map.retain_keys m p) q ≡ cond (p q) (map.get m q) None
  retain_get m p q = get-retain_keys m p q (λ x e. ap p (sym (same q x e)))

  -- what is there then was there
  pub retain_has : (m : map.FinMap R V) (p : K → Bool) (q : K)
      → map.contains_key (map.retain_keys m p) q ≡ true → map.contains_key m q ≡ true
  retain_has m p q there = go (p q) (map.get m q) (ap is_some (sym (retain_get m p q)) ∙ there)
    where
      go : (b : Bool) (o : Option V) → is_some (cond b o None) ≡ true → is_some o ≡ true
      go true o e = e
      go false o e = absurd (subst T (sym e) tt)

  -- keys may stay by another test that says the same of those that are there
  pub retain_as : (m : map.FinMap R V) (p t : K → Bool)
      → ((q : K) → map.contains_key m q ≡ true → p q ≡ t q)
      → map.retain_keys m p ≡ map.retain_keys m t
  retain_as m p t alike = same_map total same _ _ (λ q.
      retain_get m p q ∙ go q (map.get m q) refl ∙ sym (retain_get m t q))
    where
      none : (a b : Bool) → ◌≡◌ {A = Option V} (cond a None None) (cond b None None)
      none true true = refl
      none true false = refl
      none false true = refl
      none false false = refl

      go : (q : K) (o : Option V) → map.get m q ≡ o
          → cond (p q) (map.get m q) None ≡ cond (t q) (map.get m q) None
      go q None e = ap (λ v. cond (p q) v None) e ∙ none (p q) (t q)
          ∙ sym (ap (λ v. cond (t q) v None) e)
      go q (Some v) e = ap (λ b. cond b (map.get m q) None) (alike q (ap is_some e))

  -- keys that stay twice stay by the narrower test
  pub retain_twice : (m : map.FinMap R V) (p t : K → Bool) → ((q : K) → t q ≡ true → p q ≡ true)
      → map.retain_keys (map.retain_keys m p) t ≡ map.retain_keys m t
  retain_twice m p t narrower = same_map total same _ _ (λ q.
      retain_get (map.retain_keys m p) t q
      ∙ ap (λ v. cond (t q) v None) (retain_get m p q)
      ∙ go q (t q) refl
      ∙ sym (retain_get m t q))
    where
      go : (q : K) (b : Bool) → t q ≡ b
          → cond (t q) (cond (p q) (map.get m q) None) None ≡ cond (t q) (map.get m q) None
      go q true e = ap (λ b. cond (t q) (cond b (map.get m q) None) None) (narrower q e)
      go q false e = ap (λ b. cond b (cond (p q) (map.get m q) None) None) e
          ∙ sym (ap (λ b. cond b (map.get m q) None) e)

  -- where all keys pass, all stay
  pub retain_all : (m : map.FinMap R V) (p : K → Bool)
      → ((q : K) → map.contains_key m q ≡ true → p q ≡ true) → map.retain_keys m p ≡ m
  retain_all m p all = same_map total same _ _ (λ q. retain_get m p q ∙ go q (map.get m q) refl)
    where
      nothing : (b : Bool) → ◌≡◌ {A = Option V} (cond b None None) None
      nothing true = refl
      nothing false = refl

      go : (q : K) (o : Option V) → map.get m q ≡ o → cond (p q) (map.get m q) None ≡ map.get m q
      go q None e = ap (λ v. cond (p q) v None) e ∙ nothing (p q) ∙ sym e
      go q (Some v) e = ap (λ b. cond b (map.get m q) None) (all q (ap is_some e))

  -- to take out a key that is not there changes nothing
  pub none_out : (m : map.FinMap R V) (k : K) → map.get m k ≡ None → map.remove m k ≡ m
  none_out m k none = same_map total same _ _ (λ q.
      get-remove total m k q ∙ go q (eq_by_cmp R q k) refl)
    where
      go : (q : K) (b : Bool) → eq_by_cmp R q k ≡ b → cond b None (map.get m q) ≡ map.get m q
      go q true e = sym (ap (map.get m) (tied same k q e) ∙ none)
      go q false e = refl

  -- what is taken out is not there
  pub out_none : (m : map.FinMap R V) (k : K) → map.get (map.remove m k) k ≡ None
  out_none m k = get-remove total m k k
      ∙ ap (λ r. cond (is_eq r) None (map.get m k)) (tied_itself total k)

  -- to take out and put in again changes nothing
  pub out_in : (m : map.FinMap R V) (k : K) (v : V) → map.get m k ≡ Some v
      → map.insert (map.remove m k) k v ≡ m
  out_in m k v is = same_map total same _ _ (λ q.
      get-insert total (map.remove m k) k v q
      ∙ ap (cond (eq_by_cmp R q k) (Some v)) (get-remove total m k q)
      ∙ go q (eq_by_cmp R q k) refl)
    where
      go : (q : K) (b : Bool) → eq_by_cmp R q k ≡ b
          → cond b (Some v) (cond b None (map.get m q)) ≡ map.get m q
      go q true e = sym is ∙ ap (map.get m) (sym (tied same k q e))
      go q false e = refl

  -- a map is shorter without a key that it has
  pub fewer : (m : map.FinMap R V) (k : K) → map.contains_key m k ≡ true
      → map.len (map.remove m k) < map.len m
  fewer m k there = go (map.len m) refl
    where
      less : map.len (map.remove m k) ≡ map.len m - 1
      less = len-remove total m k ∙ ap (λ b. cond b (map.len m - 1) (map.len m)) there

      go : (n : ℕ) → map.len m ≡ n → map.len (map.remove m k) < map.len m
      go zero e = absurd (subst T (sym there ∙ ap (λ d. map.contains_key d k) (empty_of_len m e)
          ∙ ap is_some (get-empty R k)) tt)
      go (suc n) e = omega (arith, less, e)
