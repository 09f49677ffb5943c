-- The first row from a key on, by look-ups alone.
use Rattle.std.proofs.Common.{◌≡◌, false, cond, T, List, [], ◌∷◌, Some, None, refl, sym, ap, ◌∙◌}
use Rattle.std.{proofs.Common.subst, specs.Ordering.{eq_by_cmp, is_eq, is_lt, ordering_reverse}}
use Rattle.std.specs.{Cmp.{IsTotalOrder, alike_right, tied_itself}, FinMap.{find, is_sorted}}
use Rattle.std.specs.declared.cmp.Ordering.{Ordering, TheVariants.{Less, Equal, Greater}}
use Rattle.do_sorted.specs.Rows.{first_from}
use Rattle.do_sorted.proofs.RowOrGap.{first, second, find_below, below_first}

-- what is said of one value is said of the value that it is
some_is : {A : Type 0} (x y : A) (P : A → Type 0) → Some x ≡ Some y → P x → P y
some_is x y P e p = subst P (ap (λ v. Rattle.std.specs.Option.unwrap_or v x) e) p

-- a value is not None
no_none : {A : Type 0} (x : A) → Some x ≡ None → ⊥
no_none x e = subst T (ap Rattle.std.specs.Option.is_some e) tt

module _ {K : Type 0} {R : K → K → Ordering} (o : IsTotalOrder R) where
  -- a key that is not below k is not that of a row below k
  other : (q x k : K) → R x k ≡ Less → is_lt (R q k) ≡ false → is_eq (R q x) ≡ false
  other q x k below h = go (R q x) refl
    where
      go : (r : Ordering) → R q x ≡ r → is_eq r ≡ false
      go Less e = refl
      go Equal e = sym (sym h ∙ ap is_lt (o.congr q x k e ∙ below))
      go Greater e = refl

module _ {K V : Type 0} {R : K → K → Ordering} (o : IsTotalOrder R) where
  -- where no row is at a key or above it, no such key is found
  pub none_from : (k : K) (es : List (K × V)) → first_from R k es ≡ None → (q : K)
      → is_lt (R q k) ≡ false → find R q es ≡ None
  none_from k [] e q h = refl
  none_from k (f ∷ es) e q h = go (R f.0 k) refl (λ e. none_from k es e q h) e
    where
      go : (r : Ordering) → R f.0 k ≡ r → (first_from R k es ≡ None → find R q es ≡ None)
          → cond (is_lt r) (first_from R k es) (Some f) ≡ None → find R q (f ∷ es) ≡ None
      go Less b rest e = ap (λ t. cond t (Some f.1) (find R q es)) (other o q f.0 k b h) ∙ rest e
      go Equal b rest e = absurd (no_none f e)
      go Greater b rest e = absurd (no_none f e)

  -- the first row from a key on is not below the key
  pub first_not_below : (k : K) (es : List (K × V)) (x : K × V) → first_from R k es ≡ Some x
      → is_lt (R x.0 k) ≡ false
  first_not_below k [] x e = absurd (no_none x (sym e))
  first_not_below k (f ∷ es) x e = go (R f.0 k) refl (first_not_below k es x) e
    where
      go : (r : Ordering) → R f.0 k ≡ r → (first_from R k es ≡ Some x → is_lt (R x.0 k) ≡ false)
          → cond (is_lt r) (first_from R k es) (Some f) ≡ Some x → is_lt (R x.0 k) ≡ false
      go Less b rest e = rest e
      go Equal b rest e = some_is f x (λ y. is_lt (R y.0 k) ≡ false) e (ap is_lt b)
      go Greater b rest e = some_is f x (λ y. is_lt (R y.0 k) ≡ false) e (ap is_lt b)

  -- the key of that row is found
  pub first_there : (k : K) (es : List (K × V)) (x : K × V) → first_from R k es ≡ Some x
      → find R x.0 es ≡ Some x.1
  first_there k [] x e = absurd (no_none x (sym e))
  first_there k (f ∷ es) x e = go (R f.0 k) refl (first_there k es x) e
    where
      here : Some f ≡ Some x → find R x.0 (f ∷ es) ≡ Some x.1
      here e = some_is f x (λ y. find R y.0 (f ∷ es) ≡ Some y.1) e
          (ap (λ r. cond (is_eq r) (Some f.1) (find R f.0 es)) (tied_itself o f.0))

      go : (r : Ordering) → R f.0 k ≡ r → (first_from R k es ≡ Some x → find R x.0 es ≡ Some x.1)
          → cond (is_lt r) (first_from R k es) (Some f) ≡ Some x → find R x.0 (f ∷ es) ≡ Some x.1
      go Less b rest e =
          ap (λ t. cond t (Some f.1) (find R x.0 es))
          (other o x.0 f.0 k b (first_not_below k es x e)) ∙ rest e
      go Equal b rest e = here e
      go Greater b rest e = here e

  -- no key stands between k and the first row from k on
  pub first_lowest : (k : K) (es : List (K × V)) (x : K × V) → T (is_sorted R es)
      → first_from R k es ≡ Some x → (q : K) → is_lt (R q k) ≡ false → R q x.0 ≡ Less
      → find R q es ≡ None
  first_lowest k [] x s e q h l = refl
  first_lowest k (f ∷ es) x s e q h l =
      go (R f.0 k) refl (λ e. first_lowest k es x (second _ _ s) e q h l) e
    where
      here : Some f ≡ Some x → find R q (f ∷ es) ≡ None
      here e =
          let under : R q f.0 ≡ Less = some_is x f (λ y. R q y.0 ≡ Less) (sym e) l in
          ap (λ r. cond (is_eq r) (Some f.1) (find R q es)) under
          ∙ find_below o q es (below_first o q f es under (first _ _ s))

      go : (r : Ordering) → R f.0 k ≡ r → (first_from R k es ≡ Some x → find R q es ≡ None)
          → cond (is_lt r) (first_from R k es) (Some f) ≡ Some x → find R q (f ∷ es) ≡ None
      go Less b rest e = ap (λ t. cond t (Some f.1) (find R q es)) (other o q f.0 k b h) ∙ rest e
      go Equal b rest e = here e
      go Greater b rest e = here e
