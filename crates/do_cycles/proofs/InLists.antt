-- What is in lists that are made of others.
use Rattle.std.proofs.Common.{◌≡◌, ◌∙◌, ◌++◌, ◌||◌, ◌⊎◌, Bool, true, false, cond, List, [], ◌∷◌}
use Rattle.std.proofs.Common.{map, Some, refl, sym, ap, subst, inl, inr}
use Rattle.std.specs.List.{AllByRecursion, filter, find, flat_map, list_all, list_any}
use Rattle.std.proofs.lemmas.{Bool.and_parts, List.Folds.list_any-append}
use Rattle.do_base.specs.names.Names.{ObjectName}
use Rattle.do_machine.specs.Lists.{IsIn}
use Rattle.do_packet.specs.Met.{has_object, same_object}

-- what is in the first of two lists is in both together
in_first : {Y : Type 0} (xs ys : List Y) (y : Y) → IsIn xs y → IsIn (xs ++ ys) y
in_first [] ys y i = absurd i
in_first (x ∷ xs) ys y (inl e) = inl e
in_first (x ∷ xs) ys y (inr i) = inr (in_first xs ys y i)

-- and so is what is in the second
in_second : {Y : Type 0} (xs ys : List Y) (y : Y) → IsIn ys y → IsIn (xs ++ ys) y
in_second [] ys y i = i
in_second (x ∷ xs) ys y i = inr (in_second xs ys y i)

-- what is in two lists together is in one of them
in_one_of : {Y : Type 0} (xs ys : List Y) (y : Y) → IsIn (xs ++ ys) y → IsIn xs y ⊎ IsIn ys y
in_one_of [] ys y i = inr i
in_one_of (x ∷ xs) ys y (inl e) = inl (inl e)
in_one_of (x ∷ xs) ys y (inr i) = elim (in_one_of xs ys y i) [
  | inl j ↦ inl (inr j)
  | inr j ↦ inr j
]

module _ {X : Type 0} where
  -- what an item of a list gives is among what all give
  pub in_joined : {Y : Type 0} (f : X → List Y) (xs : List X) (x : X) (y : Y) → IsIn xs x →
      IsIn (f x) y → IsIn (flat_map f xs) y
  in_joined f [] x y i j = absurd i
  in_joined f (z ∷ zs) x y (inl e) j =
      in_first (f z) (flat_map f zs) y (subst (λ v. IsIn (f v) y) (sym e) j)
  in_joined f (z ∷ zs) x y (inr i) j =
      in_second (f z) (flat_map f zs) y (in_joined f zs x y i j)

  -- what is among what all give is given by an item
  pub joined_in : {Y : Type 0} (f : X → List Y) (xs : List X) (y : Y) → IsIn (flat_map f xs) y →
      (x : X) × IsIn xs x × IsIn (f x) y
  joined_in f [] y i = absurd i
  joined_in f (x ∷ xs) y i = elim (in_one_of (f x) (flat_map f xs) y i) [
    | inl j ↦ (x, inl refl, j)
    | inr j ↦ let r = joined_in f xs y j in (r.0, inr r.1, r.2)
  ]

  -- the image of an item is among the images
  pub in_images : {Y : Type 0} (f : X → Y) (xs : List X) (x : X) → IsIn xs x →
      IsIn (map f xs) (f x)
  in_images f [] x i = absurd i
  in_images f (z ∷ zs) x (inl e) = inl (ap f e)
  in_images f (z ∷ zs) x (inr i) = inr (in_images f zs x i)

  -- what is among the images is the image of an item
  pub images_in : {Y : Type 0} (f : X → Y) (xs : List X) (y : Y) → IsIn (map f xs) y →
      (x : X) × IsIn xs x × (f x ≡ y)
  images_in f [] y i = absurd i
  images_in f (x ∷ xs) y (inl e) = (x, inl refl, e)
  images_in f (x ∷ xs) y (inr i) = let r = images_in f xs y i in (r.0, inr r.1, r.2)

  -- what is found in a list is in it, and passes
  pub found_in : (test : X → Bool) (xs : List X) (x : X) → find test xs ≡ Some x →
      IsIn xs x × (test x ≡ true)
  found_in test [] x h = absurd (cc)
  found_in test (z ∷ zs) x h = go (test z) refl (found_in test zs x) h
    where
      same : {a b : X} → Some a ≡ Some b → a ≡ b
      same e = cc

      go : (b : Bool) → test z ≡ b → (find test zs ≡ Some x → IsIn zs x × (test x ≡ true)) →
          cond b (Some z) (find test zs) ≡ Some x → IsIn (z ∷ zs) x × (test x ≡ true)
      go true e k q = (inl (same q), ap test (sym (same q)) ∙ e)
      go false e k q = let r = k q in (inr r.0, r.1)

  -- where all pass, each does
  pub all_pass : (test : X → Bool) (xs : List X) (x : X) → list_all test xs ≡ true → IsIn xs x →
      test x ≡ true
  all_pass test [] x h i = absurd i
  all_pass test (z ∷ zs) x h (inl e) = ap test (sym e) ∙ (and_parts (test z) (list_all test zs) h).0
  all_pass test (z ∷ zs) x h (inr i) =
      all_pass test zs x (and_parts (test z) (list_all test zs) h).1 i

  -- what holds of each item that passes holds of the list that is filtered
  pub all_filtered : (P : X → Type 0) (test : X → Bool) (xs : List X) →
      ((x : X) → IsIn xs x → test x ≡ true → P x) → AllByRecursion P (filter test xs)
  all_filtered P test [] h = tt
  all_filtered P test (z ∷ zs) h =
      go (test z) refl (all_filtered P test zs (λ x i. h x (inr i)))
    where
      go : (b : Bool) → test z ≡ b → AllByRecursion P (filter test zs) →
          AllByRecursion P (cond b (z ∷ filter test zs) (filter test zs))
      go true e k = (h z (inl refl) e, k)
      go false e k = k

  -- lists that agree at each item are joined to one
  pub joined_alike : {Y : Type 0} (f g : X → List Y) (xs : List X) →
      ((x : X) → IsIn xs x → f x ≡ g x) → flat_map f xs ≡ flat_map g xs
  joined_alike f g [] h = refl
  joined_alike f g (x ∷ xs) h =
      let one = h x (inl refl) in
      let rest = joined_alike f g xs (λ y i. h y (inr i)) in
      λ j. one j ++ rest j

  -- lists without items are joined to none
  pub joined_none : {Y : Type 0} (f : X → List Y) (xs : List X) →
      ((x : X) → IsIn xs x → f x ≡ []) → flat_map f xs ≡ []
  joined_none f [] h = refl
  joined_none f (x ∷ xs) h =
      let one = h x (inl refl) in
      let rest = joined_none f xs (λ y i. h y (inr i)) in
      λ j. one j ++ rest j

  -- an object that one of the items names is among those that all name
  pub named_by_any : (f : X → List ObjectName) (xs : List X) (o : ObjectName) →
      has_object (flat_map f xs) o ≡ list_any (λ x. has_object (f x) o) xs
  named_by_any f [] o = refl
  named_by_any f (x ∷ xs) o =
      list_any-append (same_object o) (f x) (flat_map f xs)
      ∙ ap (λ b. has_object (f x) o || b) (named_by_any f xs o)

  -- an item of a list passes
  pub any_passes : (test : X → Bool) (xs : List X) (x : X) → IsIn xs x → test x ≡ true →
      list_any test xs ≡ true
  any_passes test [] x i h = absurd i
  any_passes test (z ∷ zs) x (inl e) h = ap (λ b. b || list_any test zs) (ap test e ∙ h)
  any_passes test (z ∷ zs) x (inr i) h = later (test z) (list_any test zs)
      (any_passes test zs x i h)
    where
      later : (a b : Bool) → b ≡ true → (a || b) ≡ true
      later true b e = refl
      later false b e = e
