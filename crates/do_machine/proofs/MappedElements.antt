-- Elements of a list that another list is mapped to.
use Rattle.std.proofs.Common.{◌≡◌, Bool, true, false, cond, ◌||◌, List, [], ◌∷◌, filter}
use Rattle.std.{proofs.Common.{map as each, refl, ap, inl, inr}, specs.List.list_any}
use Rattle.do_machine.specs.Lists.{IsIn}

-- what passes of what is mapped
pub filter-map : {X Y : Type 0} (f : X → Y) (p : Y → Bool) (xs : List X)
    → filter p (each f xs) ≡ each f (filter (λ x. p (f x)) xs)
filter-map f p [] = refl
filter-map f p (x ∷ xs) = go (p (f x)) (filter-map f p xs)
  where
    go : (b : Bool) → filter p (each f xs) ≡ each f (filter (λ y. p (f y)) xs)
        → cond b (f x ∷ filter p (each f xs)) (filter p (each f xs))
        ≡ each f (cond b (x ∷ filter (λ y. p (f y)) xs) (filter (λ y. p (f y)) xs))
    go true e = ap (λ l. f x ∷ l) e
    go false e = e

-- whether one passes of what is mapped
pub any-map : {X Y : Type 0} (f : X → Y) (p : Y → Bool) (xs : List X)
    → list_any p (each f xs) ≡ list_any (λ x. p (f x)) xs
any-map f p [] = refl
any-map f p (x ∷ xs) = ap (λ b. p (f x) || b) (any-map f p xs)

-- what is mapped is among what its list is mapped to
pub in_map : {X Y : Type 0} (f : X → Y) (xs : List X) (x : X) → IsIn xs x → IsIn (each f xs) (f x)
in_map f [] x a = absurd a
in_map f (y ∷ ys) x (inl e) = inl (ap f e)
in_map f (y ∷ ys) x (inr a) = inr (in_map f ys x a)

-- what is among mapped elements is one of them, mapped
pub of_map : {X Y : Type 0} (f : X → Y) (xs : List X) (y : Y) → IsIn (each f xs) y
    → (x : X) × IsIn xs x × (f x ≡ y)
of_map f [] y a = absurd a
of_map f (x ∷ xs) y (inl e) = (x, inl refl, e)
of_map f (x ∷ xs) y (inr a) = let r = of_map f xs y a in (r.0, inr r.1, r.2)
