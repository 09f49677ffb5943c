-- What is found in a list that another is mapped to, or with an element left out.
use Rattle.std.proofs.Common.{◌≡◌, ℕ, Bool, true, false, cond, List, [], ◌∷◌, map, refl, ap, sym}
use Rattle.std.{proofs.Common.{◌∙◌, ◌==◌, arith}, specs.Prelude.{Some, not, option_map}}
use Rattle.std.{specs.List.{find, list_any}, proofs.lemmas.Bool.eqb-true}
use Rattle.do_machine.specs.World.{others}

-- to find among the results is to find among the elements
pub find_mapped : {X Y : Type 0} (test : Y → Bool) (f : X → Y) (xs : List X) →
    find test (map f xs) ≡ option_map f (find (λ x. test (f x)) xs)
find_mapped test f [] = refl
find_mapped test f (x ∷ xs) = go (test (f x)) (find_mapped test f xs)
  where
    go : (b : Bool) →
        find test (map f xs) ≡ option_map f (find (λ y. test (f y)) xs) →
        cond b (Some (f x)) (find test (map f xs))
        ≡ option_map f (cond b (Some x) (find (λ y. test (f y)) xs))
    go true e = refl
    go false e = e

-- a number is not among the numbers other than it
pub not_other : (n : ℕ) (xs : List ℕ) → list_any (λ x. x == n) (others xs n) ≡ false
not_other n [] = refl
not_other n (x ∷ xs) = go (x == n) refl (not_other n xs)
  where
    go : (b : Bool) → (x == n) ≡ b → list_any (λ y. y == n) (others xs n) ≡ false →
        list_any (λ y. y == n) (cond (not b) (x ∷ others xs n) (others xs n)) ≡ false
    go true e k = k
    go false e k = grind (arith, e, k)

-- of the numbers other than one each is found
pub other_found : {Y : Type 0} (f : ℕ → Y) (key : Y → ℕ) → ((x : ℕ) → key (f x) ≡ x) →
    (n m : ℕ) → (m == n) ≡ false → (xs : List ℕ) → list_any (λ x. m == x) xs ≡ true →
    find (λ y. m == key y) (map f (others xs n)) ≡ Some (f m)
other_found f key keyed n m apart [] h = absurd cc
other_found f key keyed n m apart (x ∷ xs) h =
    go (x == n) refl (m == x) refl (other_found f key keyed n m apart xs) h
  where
    here : (b : Bool) → (m == x) ≡ b →
        (b ≡ false → find (λ y. m == key y) (map f (others xs n)) ≡ Some (f m)) →
        find (λ y. m == key y) (map f (x ∷ others xs n)) ≡ Some (f m)
    here true e k =
        ap (λ (t : ℕ). cond (m == t) (Some (f x)) (find (λ y. m == key y) (map f (others xs n))))
        (keyed x)
        ∙ ap (λ b. cond b (Some (f x)) (find (λ y. m == key y) (map f (others xs n)))) e
        ∙ ap (λ t. Some (f t)) (sym (eqb-true m x e))
    here false e k =
        ap (λ (t : ℕ). cond (m == t) (Some (f x)) (find (λ y. m == key y) (map f (others xs n))))
        (keyed x)
        ∙ ap (λ b. cond b (Some (f x)) (find (λ y. m == key y) (map f (others xs n)))) e
        ∙ k refl

    go : (b : Bool) → (x == n) ≡ b → (c : Bool) → (m == x) ≡ c →
        (list_any (λ y. m == y) xs ≡ true →
        find (λ y. m == key y) (map f (others xs n)) ≡ Some (f m)) →
        list_any (λ y. m == y) (x ∷ xs) ≡ true →
        find (λ y. m == key y) (map f (cond (not b) (x ∷ others xs n) (others xs n)))
        ≡ Some (f m)
    go true e true d k h =
        let same : m ≡ x = eqb-true m x d in
        let is_n : (m == n) ≡ true = ap (λ t. t == n) same ∙ e in
        absurd cc
    go true e false d k h = k (grind (arith, d, h))
    go false e c d k h = here c d (λ no. k (grind (arith, d, no, h)))

-- what is among the numbers other than one is among all
pub among_others : (m n : ℕ) (xs : List ℕ) → list_any (λ x. x == m) (others xs n) ≡ true →
    list_any (λ x. x == m) xs ≡ true
among_others m n [] h = h
among_others m n (x ∷ xs) h = go (x == n) (x == m) (among_others m n xs) h
  where
    go : (b c : Bool) →
        (list_any (λ y. y == m) (others xs n) ≡ true → list_any (λ y. y == m) xs ≡ true) →
        list_any (λ y. y == m) (cond (not b) (x ∷ others xs n) (others xs n)) ≡ true →
        list_any (λ y. y == m) (x ∷ xs) ≡ true
    go true c k q = grind (arith, k q)
    go false c k q = grind (arith, k, q)

-- numbers apart are so either way round
pub turned : (a m : ℕ) → (a == m) ≡ false → (m == a) ≡ false
turned a m apart = grind (arith, apart)
