-- Lists in which nothing stands twice, and what is taken out of them.
use Rattle.std.proofs.Common.{◌≡◌, ◌||◌, ◌&&◌, Bool, true, false, cond, not, List, [], ◌∷◌, filter}
use Rattle.std.proofs.Common.{refl, sym, ap, ◌∙◌, ◌++◌, inl, inr, subst, arith}
use Rattle.std.specs.List.{AllByRecursion, IsDistinct, list_any}
use Rattle.std.proofs.lemmas.Map.{Keys.IsDistinct-IsPermutation, Views.any-filter_same}
use Rattle.do_machine.specs.Lists.{IsIn, inserted}
use Rattle.do_machine.proofs.{Bools.or_right, Inserting.inserted_moves}
use Rattle.do_facts.specs.StandOnce.{StandOnce}

-- neither of two tests passed
both_fail : (a b : Bool) → a ≡ false → b ≡ false → (a || b) ≡ false
both_fail true b x y = x
both_fail false b x y = y

-- the first and the second failed
first_failed : (a b : Bool) → (a || b) ≡ false → a ≡ false
first_failed true b h = h
first_failed false b h = refl

-- the second of two tests that failed failed
second_failed : (a b : Bool) → (a || b) ≡ false → b ≡ false
second_failed true b h = absurd (cc)
second_failed false b h = h

module _ {X : Type 0} where
  -- what passes nowhere passes nowhere among some
  none_filtered : (p f : X → Bool) (xs : List X) → list_any p xs ≡ false →
      list_any p (filter f xs) ≡ false
  none_filtered p f [] h = refl
  none_filtered p f (x ∷ xs) h = grind (arith, h, none_filtered p f xs)

  -- two tests that agree on what is in a list leave the same of it
  pub filter_agrees : (f g : X → Bool) (xs : List X) → ((x : X) → IsIn xs x → f x ≡ g x) →
      filter f xs ≡ filter g xs
  filter_agrees f g [] h = refl
  filter_agrees f g (x ∷ xs) h =
      ap (λ b. cond b (x ∷ filter f xs) (filter f xs)) (h x (inl refl))
      ∙ ap (λ ys. cond (g x) (x ∷ ys) ys) (filter_agrees f g xs (λ y i. h y (inr i)))

  -- a filter of what another left
  pub filter_twice : (f g : X → Bool) (xs : List X) →
      filter f (filter g xs) ≡ filter (λ x. g x && f x) xs
  filter_twice f g [] = refl
  filter_twice f g (x ∷ xs) = grind (arith, filter_twice f g xs)

  module _ (same : X → X → Bool) where
    -- some of what stands once stands once
    pub once_filtered : (f : X → Bool) (xs : List X) → StandOnce same xs →
        StandOnce same (filter f xs)
    once_filtered f [] h = tt
    once_filtered f (x ∷ xs) h =
        go (f x) (none_filtered (same x) f xs h.0) (once_filtered f xs h.1)
      where
        go : (b : Bool) → list_any (same x) (filter f xs) ≡ false →
            StandOnce same (filter f xs) →
            StandOnce same (cond b (x ∷ filter f xs) (filter f xs))
        go true n r = (n, r)
        go false n r = r

    -- an element that is the same as no other is apart from each
    apart_from : (x : X) (xs : List X) → list_any (same x) xs ≡ false →
        AllByRecursion (λ y. same x y ≡ false) xs
    apart_from x [] h = tt
    apart_from x (y ∷ ys) h =
        (first_failed (same x y) _ h, apart_from x ys (second_failed (same x y) _ h))

    -- and the converse
    none_from : (x : X) (xs : List X) → AllByRecursion (λ y. same x y ≡ false) xs →
        list_any (same x) xs ≡ false
    none_from x [] h = refl
    none_from x (y ∷ ys) h = both_fail (same x y) _ h.0 (none_from x ys h.1)

    -- elements that stand once are distinct
    distinct_of : (xs : List X) → StandOnce same xs → IsDistinct same xs
    unfolding IsDistinct
    distinct_of [] h = tt
    distinct_of (x ∷ xs) h = (apart_from x xs h.0, distinct_of xs h.1)

    -- and the converse
    once_of : (xs : List X) → IsDistinct same xs → StandOnce same xs
    unfolding IsDistinct
    once_of [] h = tt
    once_of (x ∷ xs) h = (none_from x xs h.0, once_of xs h.1)

    -- one more stands once, where it is the same as no other
    pub once_inserted : (flips : (x y : X) → same x y ≡ same y x) (before : X → X → Bool) (x : X)
        (xs : List X) → list_any (same x) xs ≡ false → StandOnce same xs →
        StandOnce same (inserted before x xs)
    once_inserted flips before x xs none h =
        once_of (inserted before x xs)
        (IsDistinct-IsPermutation same flips (x ∷ xs) (inserted before x xs)
        (inserted_moves before x xs) (distinct_of (x ∷ xs) (none, h)))

    -- what is left once elements are taken out, one after another
    abbrev pub taken_out : List X → List X → List X
    taken_out [] xs = xs
    taken_out (w ∷ ws) xs = taken_out ws (filter (λ x. not (same w x)) xs)

    -- that is what is the same as none of them
    taken_all : (ws xs : List X) →
        taken_out ws xs ≡ filter (λ x. not (list_any (λ w. same w x) ws)) xs
    taken_all [] xs = sym (all_left xs)
      where
        all_left : (ys : List X) → filter (λ x. true) ys ≡ ys
        all_left [] = refl
        all_left (y ∷ ys) = ap (λ zs. y ∷ zs) (all_left ys)
    taken_all (w ∷ ws) xs =
        taken_all ws (filter (λ x. not (same w x)) xs)
        ∙ filter_twice (λ x. not (list_any (λ v. same v x) ws)) (λ x. not (same w x)) xs
        ∙ filter_agrees (λ x. not (same w x) && not (list_any (λ v. same v x) ws))
        (λ x. not (same w x || list_any (λ v. same v x) ws)) xs
        (λ x i. neither (same w x) (list_any (λ v. same v x) ws))
      where
        neither : (a b : Bool) → (not a && not b) ≡ not (a || b)
        neither true b = refl
        neither false b = refl

    module _ (itself : (x : X) → same x x ≡ true) (test : X → Bool)
        (alike : (x y : X) → same x y ≡ true → test x ≡ test y) where
      -- an element that passes is among those that pass
      found_among : (xs : List X) (x : X) → IsIn xs x → test x ≡ true →
          list_any (λ w. same w x) (filter test xs) ≡ true
      found_among [] x i h = absurd i
      found_among (y ∷ ys) x (inl e) h = grind (arith, e, h, itself x)
      found_among (y ∷ ys) x (inr i) h = grind (arith, found_among ys x i h)

      -- what does not pass is the same as nothing that passes
      not_among : (xs : List X) (x : X) → test x ≡ false →
          list_any (λ w. same w x) (filter test xs) ≡ false
      not_among [] x h = refl
      not_among (y ∷ ys) x h = grind (arith, h, alike y x, not_among ys x h)

      -- once all that pass are taken out one after another, those that do not pass are left
      pub passing_taken : (xs : List X) →
          taken_out (filter test xs) xs ≡ filter (λ x. not (test x)) xs
      passing_taken xs =
          taken_all (filter test xs) xs
          ∙ filter_agrees (λ x. not (list_any (λ w. same w x) (filter test xs)))
          (λ x. not (test x)) xs (λ x i. ap not (go x i (test x) refl))
        where
          go : (x : X) → IsIn xs x → (b : Bool) → test x ≡ b →
              list_any (λ w. same w x) (filter test xs) ≡ test x
          go x i true h = found_among xs x i h ∙ sym h
          go x i false h = not_among xs x h ∙ sym h

module _ {X : Type 0} where
  -- what is among some is among all, and passes
  pub in_filtered : (f : X → Bool) (xs : List X) (x : X) → IsIn (filter f xs) x →
      IsIn xs x × (f x ≡ true)
  in_filtered f [] x i = absurd i
  in_filtered f (y ∷ ys) x i = go (f y) refl (in_filtered f ys x) i
    where
      go : (b : Bool) → f y ≡ b → (IsIn (filter f ys) x → IsIn ys x × (f x ≡ true)) →
          IsIn (cond b (y ∷ filter f ys) (filter f ys)) x → IsIn (y ∷ ys) x × (f x ≡ true)
      go true e r (inl s) = (inl s, ap f (sym s) ∙ e)
      go true e r (inr j) = (inr (r j).0, (r j).1)
      go false e r j = (inr (r j).0, (r j).1)

  -- what is among all, and passes, is among some
  pub still_in : (f : X → Bool) (xs : List X) (x : X) → IsIn xs x → f x ≡ true →
      IsIn (filter f xs) x
  still_in f [] x i e = absurd i
  still_in f (y ∷ ys) x (inl s) e =
      subst (λ b. IsIn (cond b (y ∷ filter f ys) (filter f ys)) x) (sym (ap f s ∙ e)) (inl s)
  still_in f (y ∷ ys) x (inr i) e = go (f y) (still_in f ys x i e)
    where
      go : (b : Bool) → IsIn (filter f ys) x → IsIn (cond b (y ∷ filter f ys) (filter f ys)) x
      go true j = inr j
      go false j = j

  -- what is in a list is in a longer one
  pub in_first : (xs ys : List X) (x : X) → IsIn xs x → IsIn (xs ++ ys) x
  in_first [] ys x i = absurd i
  in_first (y ∷ xs) ys x (inl s) = inl s
  in_first (y ∷ xs) ys x (inr i) = inr (in_first xs ys x i)

  module _ (same : X → X → Bool) where
    -- what is in a list is the same as something in it
    pub found_in : ((x : X) → same x x ≡ true) → (xs : List X) (x : X) → IsIn xs x →
        list_any (same x) xs ≡ true
    found_in itself [] x i = absurd i
    found_in itself (y ∷ ys) x (inl e) =
        ap (λ b. b || list_any (same x) ys) (ap (same x) e ∙ itself x)
    found_in itself (y ∷ ys) x (inr i) = or_right (same x y) _ (found_in itself ys x i)

    -- what is the same as nothing in a list is apart from each
    pub apart_in : (w : X) (ws : List X) → list_any (same w) ws ≡ false → (v : X) → IsIn ws v →
        same w v ≡ false
    apart_in w [] h v i = absurd i
    apart_in w (y ∷ ys) h v (inl e) = ap (same w) (sym e) ∙ first_failed (same w y) _ h
    apart_in w (y ∷ ys) h v (inr i) = apart_in w ys (second_failed (same w y) _ h) v i

    -- what is apart from an element is there once that is taken out
    pub still_there : ((a b : X) → same a b ≡ true → a ≡ b) → (w v : X) (xs : List X) →
        same w v ≡ false → list_any (same v) xs ≡ true →
        list_any (same v) (filter (λ x. not (same w x)) xs) ≡ true
    still_there is w v xs apart there =
        any-filter_same (same v) (λ x. not (same w x)) true
        (λ k h. ap (λ x. not (same w x)) (sym (is v k h)) ∙ ap not apart) xs
        ∙ there
