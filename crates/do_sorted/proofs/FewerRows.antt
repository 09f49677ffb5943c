-- Of two sorted lists of rows, where the second has each key of the first, the first is no longer.
use Rattle.std.proofs.Common.{◌≡◌, ◌+◌, ◌<◌, ◌≤◌, Bool, true, false, cond, T, List, [], ◌∷◌, length}
use Rattle.std.proofs.Common.{Some, None, Option, refl, sym, ap, ◌∙◌, subst, arith}
use mathlib.Core.Bool.{false≢true}
use Rattle.std.specs.{Option.is_some, Ordering.{eq_by_cmp, is_eq, is_lt, ordering_reverse}}
use Rattle.std.specs.{Cmp.{IsTotalOrder, alike_right, tied_itself}, FinMap.{find, put, is_sorted}}
use Rattle.std.specs.FinMap.Entries.{below_all, is_sorted-put, find-put, find_tied, length-put}
use Rattle.std.specs.declared.cmp.Ordering.{Ordering, TheVariants.{Less, Equal, Greater}}
use Rattle.do_sorted.proofs.RowOrGap.{first, second, less, both, find_below, below_first}

-- what is tested to tie ties
tied : (r : Ordering) → is_eq r ≡ true → r ≡ Equal
tied Less e = absurd (false≢true e)
tied Equal e = refl
tied Greater e = absurd (false≢true e)

-- what is None is not some
none_some : {A : Type 0} (o : Option A) → o ≡ None → is_some o ≡ true → ⊥
none_some o n s = false≢true (sym (ap is_some n) ∙ s)

-- each key of the one is a key of the other
abbrev pub HasAll : {K V W : Type 0} (R : K → K → Ordering) → List (K × V) → List (K × W) → Type 0
HasAll {K} R es fs = (q : K) → is_some (find R q es) ≡ true → is_some (find R q fs) ≡ true

module _ {K W : Type 0} {R : K → K → Ordering} (o : IsTotalOrder R) where
  -- what is below all rows is below each key that is found
  found_above : (x q : K) (fs : List (K × W)) → T (below_all R x fs) → is_some (find R q fs) ≡ true
      → R x q ≡ Less
  found_above x q [] h s = absurd (false≢true s)
  found_above x q (f ∷ fs) h s = go (eq_by_cmp R q f.0) refl (found_above x q fs (second _ _ h)) s
    where
      go : (b : Bool) → eq_by_cmp R q f.0 ≡ b → (is_some (find R q fs) ≡ true → R x q ≡ Less)
          → is_some (cond b (Some f.1) (find R q fs)) ≡ true → R x q ≡ Less
      go true e rest s = alike_right o q f.0 x (tied _ e) ∙ less _ (first _ _ h)
      go false e rest s = rest s

  -- a key above the first row is found behind it
  behind_first : (q : K) (f : K × W) (fs : List (K × W)) → R f.0 q ≡ Less
      → is_some (find R q (f ∷ fs)) ≡ true → is_some (find R q fs) ≡ true
  behind_first q f fs below s =
      sym (ap (λ r. is_some (cond (is_eq r) (Some f.1) (find R q fs)))
      (o.antisymm q f.0 ∙ ap ordering_reverse below)) ∙ s

  -- the first row's key is found
  first_found : (f : K × W) (fs : List (K × W)) → is_some (find R f.0 (f ∷ fs)) ≡ true
  first_found f fs =
      ap (λ r. is_some (cond (is_eq r) (Some f.1) (find R f.0 fs))) (tied_itself o f.0)

  -- what is found behind the first row is found
  found_later : (q : K) (f : K × W) (fs : List (K × W)) → is_some (find R q fs) ≡ true
      → is_some (find R q (f ∷ fs)) ≡ true
  found_later q f fs s = go (eq_by_cmp R q f.0)
    where
      go : (b : Bool) → is_some (cond b (Some f.1) (find R q fs)) ≡ true
      go true = refl
      go false = s

module _ {K V W : Type 0} {R : K → K → Ordering} (o : IsTotalOrder R) where
  -- a sorted list whose keys are all in another is no longer than that one
  pub no_longer : (es : List (K × V)) (fs : List (K × W)) → T (is_sorted R es) → T (is_sorted R fs)
      → HasAll R es fs → length es ≤ length fs
  no_longer [] fs s t all = omega arith
  no_longer (e ∷ es) [] s t all = absurd (false≢true (all e.0 (first_found o e es)))
  no_longer (e ∷ es) (f ∷ fs) s t all =
      go (R e.0 f.0) refl (no_longer es fs (second _ _ s) (second _ _ t))
      (no_longer (e ∷ es) fs s (second _ _ t))
    where
      go : (r : Ordering) → R e.0 f.0 ≡ r → (HasAll R es fs → length es ≤ length fs)
          → (HasAll R (e ∷ es) fs → length (e ∷ es) ≤ length fs) → length (e ∷ es) ≤ length (f ∷ fs)
      go Less p one more =
          absurd (none_some _ (ap (λ r. cond (is_eq r) (Some f.1) (find R e.0 fs)) p
          ∙ find_below o e.0 fs (below_first o e.0 f fs p (first _ _ t)))
          (all e.0 (first_found o e es)))
      go Equal p one more =
          let rest = one
          (λ q h. behind_first o q f fs
          (sym (o.congr e.0 f.0 q p) ∙ found_above o e.0 q es (first _ _ s) h)
          (all q (found_later o q e es h))) in
          omega (arith, rest)
      go Greater p one more =
          let below : R f.0 e.0 ≡ Less = o.antisymm f.0 e.0 ∙ ap ordering_reverse p in
          let under = both _ _ (subst (λ r. T (is_lt r)) (sym below) tt)
          (below_first o f.0 e es below (first _ _ s)) in
          let rest = more
          (λ q h. behind_first o q f fs (found_above o f.0 q (e ∷ es) under h) (all q h)) in
          omega (arith, rest)

  -- and it is shorter where the second has one more key
  pub shorter : (es : List (K × V)) (fs : List (K × W)) → T (is_sorted R es) → T (is_sorted R fs)
      → HasAll R es fs → (k : K) → V → find R k es ≡ None → is_some (find R k fs) ≡ true
      → length es < length fs
  shorter es fs s t all k v none some =
      let long = length-put R o k v es s
      ∙ ap (λ (x : Option V). cond (is_some x) (length es) (length es + 1)) none in
      let bound = no_longer (put R k v es) fs (is_sorted-put R o k v es s) t
      (λ q h. go q (eq_by_cmp R q k) refl (sym (ap is_some (find-put R o q k v es)) ∙ h)) in
      omega (arith, long, bound)
    where
      go : (q : K) (b : Bool) → eq_by_cmp R q k ≡ b → is_some (cond b (Some v) (find R q es)) ≡ true
          → is_some (find R q fs) ≡ true
      go q true e h = sym (ap is_some (find_tied R o q k (tied _ e) fs)) ∙ some
      go q false e h = all q h
