-- What is found in a list by a number, once the first of a number is changed.
use Rattle.std.proofs.Common.{◌≡◌, ◌==◌, ℕ, Bool, true, false, cond, List, [], ◌∷◌, refl, sym, ap}
use Rattle.std.{proofs.Common.{◌∙◌, ◌++◌, fold, map, arith}, specs.Prelude.{Some, find, option_map}}
use Rattle.std.proofs.lemmas.Bool.Decides.{nat_tests}
use Rattle.do_machine.specs.Lists.{change_first}

-- a fold along a list and then another
pub fold_behind : {X Y : Type 0} (f : Y → X → Y) (y : Y) (xs zs : List X) →
    fold f y (xs ++ zs) ≡ fold f (fold f y xs) zs
fold_behind f y [] zs = refl
fold_behind f y (x ∷ xs) zs = fold_behind f (f y x) xs zs

module _ {X : Type 0} (key : X → ℕ) (f : X → X) (same : (x : X) → key (f x) ≡ key x) where
  -- the first of the number, once it is changed
  pub found_changed : (n : ℕ) (xs : List X) →
      find (λ x. n == key x) (change_first (λ x. n == key x) f xs)
      ≡ option_map f (find (λ x. n == key x) xs)
  found_changed n [] = refl
  found_changed n (x ∷ xs) = go (n == key x) refl (found_changed n xs)
    where
      go : (b : Bool) → (n == key x) ≡ b →
          find (λ y. n == key y) (change_first (λ y. n == key y) f xs)
          ≡ option_map f (find (λ y. n == key y) xs) →
          find (λ y. n == key y) (cond b (f x ∷ xs) (x ∷ change_first (λ y. n == key y) f xs))
          ≡ option_map f (cond b (Some x) (find (λ y. n == key y) xs))
      go true e k =
          ap (λ z. cond z (Some (f x)) (find (λ y. n == key y) xs))
          (ap (λ z. n == z) (same x) ∙ e)
      go false e k =
          ap (λ z. cond z (Some x)
          (find (λ y. n == key y) (change_first (λ y. n == key y) f xs))) e
          ∙ k

  -- the first of another number
  pub found_elsewhere : (n m : ℕ) → (n == m) ≡ false → (xs : List X) →
      find (λ x. m == key x) (change_first (λ x. n == key x) f xs)
      ≡ find (λ x. m == key x) xs
  found_elsewhere n m apart [] = refl
  found_elsewhere n m apart (x ∷ xs) =
      go (n == key x) refl (found_elsewhere n m apart xs)
    where
      not_here : (n == key x) ≡ true → (m == key x) ≡ false
      not_here e = grind (arith, nat_tests, apart, e)

      go : (b : Bool) → (n == key x) ≡ b →
          find (λ y. m == key y) (change_first (λ y. n == key y) f xs)
          ≡ find (λ y. m == key y) xs →
          find (λ y. m == key y) (cond b (f x ∷ xs) (x ∷ change_first (λ y. n == key y) f xs))
          ≡ cond (m == key x) (Some x) (find (λ y. m == key y) xs)
      go true e k =
          ap (λ z. cond z (Some (f x)) (find (λ y. m == key y) xs))
          (ap (λ z. m == z) (same x) ∙ not_here e)
          ∙ sym (ap (λ z. cond z (Some x) (find (λ y. m == key y) xs)) (not_here e))
      go false e k = ap (λ z. cond (m == key x) (Some x) z) k

  -- the first is changed twice
  pub changed_twice : (g : X → X) (n : ℕ) (xs : List X) →
      change_first (λ x. n == key x) g (change_first (λ x. n == key x) f xs)
      ≡ change_first (λ x. n == key x) (λ x. g (f x)) xs
  changed_twice g n [] = refl
  changed_twice g n (x ∷ xs) = go (n == key x) refl (changed_twice g n xs)
    where
      go : (b : Bool) → (n == key x) ≡ b →
          change_first (λ y. n == key y) g (change_first (λ y. n == key y) f xs)
          ≡ change_first (λ y. n == key y) (λ y. g (f y)) xs →
          change_first (λ y. n == key y) g
          (cond b (f x ∷ xs) (x ∷ change_first (λ y. n == key y) f xs))
          ≡ cond b (g (f x) ∷ xs) (x ∷ change_first (λ y. n == key y) (λ y. g (f y)) xs)
      go true e k =
          ap (λ z. cond z (g (f x) ∷ xs) (f x ∷ change_first (λ y. n == key y) g xs))
          (ap (λ z. n == z) (same x) ∙ e)
      go false e k =
          ap (λ z. cond z (g x ∷ change_first (λ y. n == key y) f xs)
          (x ∷ change_first (λ y. n == key y) g (change_first (λ y. n == key y) f xs))) e
          ∙ ap (λ z. x ∷ z) k

  -- the numbers are the same
  pub same_keys : (n : ℕ) (xs : List X) →
      map key (change_first (λ x. n == key x) f xs) ≡ map key xs
  same_keys n [] = refl
  same_keys n (x ∷ xs) = go (n == key x) (same_keys n xs)
    where
      go : (b : Bool) → map key (change_first (λ y. n == key y) f xs) ≡ map key xs →
          map key (cond b (f x ∷ xs) (x ∷ change_first (λ y. n == key y) f xs))
          ≡ key x ∷ map key xs
      go true k = ap (λ z. z ∷ map key xs) (same x)
      go false k = ap (λ z. key x ∷ z) k
