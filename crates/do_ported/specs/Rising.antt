-- Where numbers that rise are cut in two.
use Rattle.std.specs.{Prelude.{List, false, nat_lt, true, ℕ, ◌≡◌}, List.Sorted.IsPartitionPoint}

-- a place behind all elements of numbers below one, and before all others
abbrev pub IsHalved : {X : Type 0} → (X → ℕ) → ℕ → List X → ℕ → Type 0
IsHalved n t xs i =
    IsPartitionPoint (λ y. nat_lt (n y) t ≡ true) (λ y. nat_lt (n y) t ≡ false) xs i
