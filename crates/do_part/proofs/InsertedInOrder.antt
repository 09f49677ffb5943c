-- Inserted elements are in order, and so is what passes of them.
use Rattle.std.proofs.Common.{◌≡◌, ℕ, Bool, true, false, cond, List, [], ◌∷◌, filter, refl, sym, ap}
use Rattle.std.proofs.Common.{◌∙◌, subst, inl, inr}
use Rattle.do_machine.specs.Lists.{IsIn, all_inserted, inserted}
use Rattle.do_machine.proofs.PutInOrder.{in_put, inserted_is, put_first, put_in}
use Rattle.do_part.proofs.PassingElements.{in_filter}

module _ {X : Type 0} (before : X → X → Bool) where
  -- what comes before an element comes before all that do not come before that, and of two
  -- elements one at most comes before the other
  pub record IsOrder : Type 0 where
    pub follows : (x y z : X) → before x y ≡ true → before z y ≡ false → before x z ≡ true
    pub apart : (x y : X) → before x y ≡ true → before y x ≡ false

  -- no element comes before one that stands before it
  abbrev pub AreOrdered : List X → Type 0
  AreOrdered [] = ℕ
  AreOrdered (x ∷ xs) = ((y : X) → IsIn xs y → before y x ≡ false) × AreOrdered xs

  module _ (order : IsOrder) where
    -- elements in order are so with one more
    ordered-put : (x : X) (xs : List X) → AreOrdered xs → AreOrdered (put_in before x xs)
    ordered-put x [] o = (λ y a. absurd a, 0)
    ordered-put x (y ∷ ys) o = go (before x y) refl (ordered-put x ys o.1)
      where
        go : (b : Bool) → before x y ≡ b → AreOrdered (put_in before x ys)
            → AreOrdered (cond b (x ∷ y ∷ ys) (y ∷ put_in before x ys))
        go true e later = (behind, o)
          where
            behind : (w : X) → IsIn (y ∷ ys) w → before w x ≡ false
            behind w (inl same) = subst (λ v. before v x ≡ false) same (order.apart x y e)
            behind w (inr a) = order.apart x w (order.follows x y w e (o.0 w a))
        go false e later = (
          λ w a. elim (in_put before x ys w a) [
            | inl same ↦ subst (λ v. before v y ≡ false) same e
            | inr h ↦ o.0 w h
          ],
          later,
        )

    -- inserted elements are in order
    pub ordered-all : (xs : List X) → AreOrdered (all_inserted before xs)
    ordered-all [] = 0
    ordered-all (x ∷ xs) = subst AreOrdered (sym (inserted_is before x (all_inserted before xs)))
        (ordered-put x (all_inserted before xs) (ordered-all xs))

    -- what passes of elements in order with one more
    filter-put : (p : X → Bool) (x : X) (xs : List X) → AreOrdered xs
        → filter p (put_in before x xs) ≡ cond (p x) (put_in before x (filter p xs)) (filter p xs)
    filter-put p x [] o = refl
    filter-put p x (y ∷ ys) o = go (before x y) refl (filter-put p x ys o.1)
      where
        -- an element that comes before the first comes before all
        front : before x y ≡ true → (w : X) → IsIn (y ∷ ys) w → before x w ≡ true
        front e w (inl same) = subst (λ v. before x v ≡ true) same e
        front e w (inr a) = order.follows x y w e (o.0 w a)

        -- by which of the two pass
        both : (b c : Bool) → before x y ≡ false
            → filter p (put_in before x ys) ≡ cond c (put_in before x (filter p ys)) (filter p ys)
            → cond b (y ∷ filter p (put_in before x ys)) (filter p (put_in before x ys))
            ≡ cond c (put_in before x (cond b (y ∷ filter p ys) (filter p ys)))
            (cond b (y ∷ filter p ys) (filter p ys))
        both true true e later = ap (λ l. y ∷ l) later
            ∙ sym (ap (λ d. cond d (x ∷ y ∷ filter p ys) (y ∷ put_in before x (filter p ys))) e)
        both true false e later = ap (λ l. y ∷ l) later
        both false true e later = later
        both false false e later = later

        go : (b : Bool) → before x y ≡ b
            → filter p (put_in before x ys)
            ≡ cond (p x) (put_in before x (filter p ys)) (filter p ys)
            → filter p (cond b (x ∷ y ∷ ys) (y ∷ put_in before x ys))
            ≡ cond (p x) (put_in before x (filter p (y ∷ ys))) (filter p (y ∷ ys))
        go true e later = ap (λ l. cond (p x) l (filter p (y ∷ ys)))
            (sym (put_first before x (filter p (y ∷ ys))
            (λ w a. front e w (in_filter p (y ∷ ys) w a))))
        go false e later = both (p y) (p x) e later

    -- what passes of inserted elements with one more that passes
    pub filter-one : (p : X → Bool) (x : X) (xs : List X) → p x ≡ true
        → filter p (inserted before x (all_inserted before xs))
        ≡ put_in before x (filter p (all_inserted before xs))
    filter-one p x xs passes =
        ap (filter p) (inserted_is before x (all_inserted before xs))
        ∙ filter-put p x (all_inserted before xs) (ordered-all xs)
        ∙ ap (λ b. cond b (put_in before x (filter p (all_inserted before xs)))
        (filter p (all_inserted before xs))) passes

    -- what passes of inserted elements is what passes, inserted
    pub filter-all : (p : X → Bool) (xs : List X)
        → filter p (all_inserted before xs) ≡ all_inserted before (filter p xs)
    filter-all p [] = refl
    filter-all p (x ∷ xs) =
        ap (filter p) (inserted_is before x (all_inserted before xs))
        ∙ filter-put p x (all_inserted before xs) (ordered-all xs)
        ∙ ap (λ l. cond (p x) (put_in before x l) l) (filter-all p xs)
        ∙ go (p x)
      where
        go : (b : Bool)
            → cond b (put_in before x (all_inserted before (filter p xs)))
            (all_inserted before (filter p xs))
            ≡ all_inserted before (cond b (x ∷ filter p xs) (filter p xs))
        go true = sym (inserted_is before x (all_inserted before (filter p xs)))
        go false = refl
