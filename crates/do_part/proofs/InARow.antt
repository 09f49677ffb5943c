-- Slots written one after another.
use Rattle.std.proofs.Common.{◌≡◌, ℕ, Bool, true, false, cond, eqb, List, [], ◌∷◌, Some, IsSome}
use Rattle.std.{proofs.Common.{refl, ap, ◌∙◌}, specs.Prelude.{◌==◌, slice_get, remove}}
use Rattle.do_behave.specs.declared.act.Write.{Write}
use Rattle.do_machine.specs.{Lists.change_first, State.stored, declared.node.Node.Node}
use Rattle.do_machine.specs.{declared.node.Stored.Stored, run.Changes.{with_slots, with_writes}}

-- the first of some objects changed twice is changed by both
twice : (n : ℕ) (f g : Stored → Stored) → ((x : Stored) → (f x).serial ≡ x.serial)
    → (xs : List Stored)
    → change_first (λ x. x.serial == n) g (change_first (λ x. x.serial == n) f xs)
    ≡ change_first (λ x. x.serial == n) (λ x. g (f x)) xs
twice n f g keeps [] = refl
twice n f g keeps (x ∷ xs) = go (eqb x.serial n) refl (twice n f g keeps xs)
  where
    go : (b : Bool) → eqb x.serial n ≡ b
        → change_first (λ y. y.serial == n) g (change_first (λ y. y.serial == n) f xs)
        ≡ change_first (λ y. y.serial == n) (λ y. g (f y)) xs
        → change_first (λ y. y.serial == n) g
        (cond b (f x ∷ xs) (x ∷ change_first (λ y. y.serial == n) f xs))
        ≡ cond b (g (f x) ∷ xs) (x ∷ change_first (λ y. y.serial == n) (λ y. g (f y)) xs)
    go true e later = ap (λ s. cond (eqb s n) (g (f x) ∷ xs)
        (f x ∷ change_first (λ y. y.serial == n) g xs)) (keeps x)
        ∙ ap (λ b. cond b (g (f x) ∷ xs) (f x ∷ change_first (λ y. y.serial == n) g xs)) e
    go false e later =
        ap (λ b. cond b (g x ∷ change_first (λ y. y.serial == n) f xs)
        (x ∷ change_first (λ y. y.serial == n) g (change_first (λ y. y.serial == n) f xs))) e
        ∙ ap (λ l. x ∷ l) later

-- the first write and then the others
pub slots-more : (n : ℕ) (w : Write) (ws : List Write) (node : Node)
    → with_slots n ws (with_slots n (w ∷ []) node) ≡ with_slots n (w ∷ ws) node
slots-more n w ws node = λ j. record node
    { heap = twice n (with_writes (w ∷ [])) (with_writes ws) (λ x. refl) node.heap j }

-- without a write nothing changes
pub slots-none : (n : ℕ) (node : Node) → with_slots n [] node ≡ node
slots-none n node = λ j. record node { heap = same node.heap j }
  where
    same : (xs : List Stored) → change_first (λ x. x.serial == n) (with_writes []) xs ≡ xs
    same [] = refl
    same (x ∷ xs) = go (eqb x.serial n) (same xs)
      where
        go : (b : Bool) → change_first (λ y. y.serial == n) (with_writes []) xs ≡ xs
            → cond b (with_writes [] x ∷ xs)
            (x ∷ change_first (λ y. y.serial == n) (with_writes []) xs) ≡ (x ∷ xs)
        go true later = refl
        go false later = ap (λ l. x ∷ l) later

-- what is stored is stored once slots are written
pub still_stored : (n m : ℕ) (ws : List Write) (xs : List Stored) → IsSome (stored m xs)
    → IsSome (stored m (change_first (λ x. x.serial == n) (with_writes ws) xs))
still_stored n m ws [] some = some
still_stored n m ws (x ∷ xs) some = go (eqb x.serial n) (still_stored n m ws xs)
  where
    -- by whether the first is the one that is looked for
    here : (b : Bool) (ys : List Stored)
        → (IsSome (stored m xs) → IsSome (stored m ys))
        → IsSome (cond b (Some x) (stored m xs)) → IsSome (cond b (Some x) (stored m ys))
    here true ys later there = there
    here false ys later there = later there

    -- or is written
    there : (b : Bool) → IsSome (cond b (Some x) (stored m xs))
        → IsSome (cond b (Some (with_writes ws x)) (stored m xs))
    there true s = refl
    there false s = s

    go : (b : Bool) → (IsSome (stored m xs)
        → IsSome (stored m (change_first (λ y. y.serial == n) (with_writes ws) xs)))
        → IsSome (stored m (cond b (with_writes ws x ∷ xs)
        (x ∷ change_first (λ y. y.serial == n) (with_writes ws) xs)))
    go true later = there (eqb x.serial m) some
    go false later = here (eqb x.serial m)
        (change_first (λ y. y.serial == n) (with_writes ws) xs) later some

-- a list with its first apart
pub record Parted {X : Type 0} (xs : List X) (x : X) : Type 0 where
  pub is : xs ≡ x ∷ remove xs 0

-- the first is one of them
pub parted : {X : Type 0} (xs : List X) (x : X) → slice_get xs 0 ≡ Some x → Parted xs x
parted [] x is = absurd (cc)
parted (y ∷ ys) x is = record { is = ap (λ z. z ∷ ys) (one y x is) }
  where
    -- what stands in an option is one thing
    one : {X : Type 0} (a b : X) → Some a ≡ Some b → a ≡ b
    one a b e = cc
