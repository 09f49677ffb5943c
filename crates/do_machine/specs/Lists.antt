-- Words on lists.
use Rattle.std.specs.Prelude.{Bool, List, None, Option, Some, [], false, if◌then◌else◌, nat_lt}
use Rattle.std.specs.{Prelude.{position, ℕ, ◌++◌, ◌==◌, ◌∷◌, ◌≡◌, ◌⊎◌}, List.insert}

-- the list with its first element that passes changed
abbrev pub change_first : {X : Type 0} → (X → Bool) → (X → X) → List X → List X
change_first test f [] = []
change_first test f (x ∷ xs) = if test x then f x ∷ xs else x ∷ change_first test f xs

-- there is a value, and it passes
abbrev pub some_passes : {X : Type 0} → (X → Bool) → Option X → Bool
some_passes test None = false
some_passes test (Some x) = test x

-- an element before the one at an index, or behind all
abbrev pub put_at : {X : Type 0} → X → List X → Option ℕ → List X
put_at x xs None = xs ++ x ∷ []
put_at x xs (Some at) = insert xs at x

-- an element before the first that comes after it, or behind all
abbrev pub inserted : {X : Type 0} → (X → X → Bool) → X → List X → List X
inserted before x xs = put_at x xs (position (λ y. before x y) xs)

-- elements inserted one after another
abbrev pub all_inserted : {X : Type 0} → (X → X → Bool) → List X → List X
all_inserted before [] = []
all_inserted before (x ∷ xs) = inserted before x (all_inserted before xs)

-- one list of numbers comes before another of the same length, by the first that differs
abbrev pub numbers_lt : List ℕ → List ℕ → Bool
numbers_lt (x ∷ xs) (y ∷ ys) = if x == y then numbers_lt xs ys else nat_lt x y
numbers_lt _ _ = false

-- an element is in a list
abbrev pub IsIn : {X : Type 0} → List X → X → Type 0
IsIn [] x = ⊥
IsIn (y ∷ ys) x = (y ≡ x) ⊎ IsIn ys x
