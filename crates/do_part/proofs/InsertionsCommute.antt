-- Elements of which one comes before the other are inserted in either order.
use Rattle.std.proofs.Common.{◌≡◌, Bool, true, false, cond, ◌⊎◌, inl, inr, T, List, [], ◌∷◌}
use Rattle.std.proofs.Common.{map as each, Some, None, is_some, refl, sym, ap, ◌∙◌, subst}
use Rattle.std.specs.{FinMap.{find, put, Entries.by_order}, Ordering.is_eq}
use Rattle.std.specs.declared.cmp.Ordering.{Ordering, TheVariants.{Less, Equal, Greater}}
use Rattle.do_machine.specs.Lists.{IsIn, all_inserted, inserted}
use Rattle.do_machine.proofs.PutInOrder.{inserted_is, put_in}
use Rattle.do_part.proofs.InsertedInOrder.{IsOrder}

module _ {X : Type 0} (before : X → X → Bool) (order : IsOrder before) where
  -- two elements of which one comes before the other may be put in either way round
  swap-put : (x y : X) (xs : List X) → before x y ≡ true
      → put_in before x (put_in before y xs) ≡ put_in before y (put_in before x xs)
  swap-put x y [] e =
      ap (λ b. cond b (x ∷ y ∷ []) (y ∷ x ∷ [])) e
      ∙ sym (ap (λ b. cond b (y ∷ x ∷ []) (x ∷ y ∷ [])) (order.apart x y e))
  swap-put x y (z ∷ zs) e = go (before x z) (before y z) refl refl (swap-put x y zs e)
    where
      -- the second does not come before the first
      no : before y x ≡ false
      no = order.apart x y e

      -- what comes after the second comes after the first
      on : before y z ≡ true → before x z ≡ true
      on h = order.follows x y z e (order.apart y z h)

      go : (a b : Bool) → before x z ≡ a → before y z ≡ b
          → put_in before x (put_in before y zs) ≡ put_in before y (put_in before x zs)
          → put_in before x (cond b (y ∷ z ∷ zs) (z ∷ put_in before y zs))
          ≡ put_in before y (cond a (x ∷ z ∷ zs) (z ∷ put_in before x zs))
      go true true p q later =
          ap (λ d. cond d (x ∷ y ∷ z ∷ zs) (y ∷ put_in before x (z ∷ zs))) e
          ∙ sym (ap (λ d. cond d (y ∷ x ∷ z ∷ zs) (x ∷ put_in before y (z ∷ zs))) no
          ∙ ap (λ d. x ∷ cond d (y ∷ z ∷ zs) (z ∷ put_in before y zs)) q)
      go true false p q later =
          ap (λ d. cond d (x ∷ z ∷ put_in before y zs) (z ∷ put_in before x (put_in before y zs))) p
          ∙ sym (ap (λ d. cond d (y ∷ x ∷ z ∷ zs) (x ∷ put_in before y (z ∷ zs))) no
          ∙ ap (λ d. x ∷ cond d (y ∷ z ∷ zs) (z ∷ put_in before y zs)) q)
      go false true p q later = absurd (subst T (sym (on q) ∙ p) tt)
      go false false p q later =
          ap (λ d. cond d (x ∷ z ∷ put_in before y zs) (z ∷ put_in before x (put_in before y zs))) p
          ∙ ap (λ l. z ∷ l) later
          ∙ sym (ap (λ d. cond d (y ∷ z ∷ put_in before x zs)
          (z ∷ put_in before y (put_in before x zs))) q)

  -- whichever of them comes before the other
  swap : (x y : X) (xs : List X) → (before x y ≡ true) ⊎ (before y x ≡ true)
      → inserted before x (inserted before y xs) ≡ inserted before y (inserted before x xs)
  swap x y xs either = open_up x y ∙ go either ∙ sym (open_up y x)
    where
      -- both as they are put in
      open_up : (v w : X)
          → inserted before v (inserted before w xs) ≡ put_in before v (put_in before w xs)
      open_up v w = ap (inserted before v) (inserted_is before w xs)
          ∙ inserted_is before v (put_in before w xs)

      go : (before x y ≡ true) ⊎ (before y x ≡ true)
          → put_in before x (put_in before y xs) ≡ put_in before y (put_in before x xs)
      go (inl e) = swap-put x y xs e
      go (inr e) = sym (swap-put y x xs e)

  -- of rows with one more, of another place than each, the new one is inserted
  pub all-put : {K V : Type 0} (R : K → K → Ordering) (f : K × V → X) (k : K) (v : V)
      (es : List (K × V)) → find R k es ≡ None
      → ((e : K × V) → IsIn es e → (before (f e) (f (k, v)) ≡ true)
      ⊎ (before (f (k, v)) (f e) ≡ true))
      → all_inserted before (each f (put R k v es))
      ≡ inserted before (f (k, v)) (all_inserted before (each f es))
  all-put R f k v [] none either = refl
  all-put R f k v (e ∷ es) none either = go (R k e.0) none
      (λ later. all-put R f k v es later (λ x a. either x (inr a)))
    where
      go : (r : Ordering) → cond (is_eq r) (Some e.1) (find R k es) ≡ None
          → (find R k es ≡ None → all_inserted before (each f (put R k v es))
          ≡ inserted before (f (k, v)) (all_inserted before (each f es)))
          → all_inserted before
          (each f (by_order r ((k, v) ∷ e ∷ es) ((e.0, v) ∷ es) (e ∷ put R k v es)))
          ≡ inserted before (f (k, v)) (all_inserted before (each f (e ∷ es)))
      go Less found later = refl
      go Equal found later = absurd (subst T (ap is_some found) tt)
      go Greater found later = ap (inserted before (f e)) (later found)
          ∙ swap (f e) (f (k, v)) (all_inserted before (each f es)) (either e (inl refl))
