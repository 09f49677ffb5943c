-- A loss leaves what stands before it.
use Rattle.std.proofs.Common.{◌≡◌, ℕ, zero, suc, false, List, [], ◌∷◌, refl, ap, arith}
use Rattle.std.specs.{Prelude.{length, nat_lt, take}, List.insert}

-- the front before an element that was put in stays
pub front_stays : {X : Type 0} (xs : List X) (n : ℕ) (y : X) → nat_lt (length xs) n ≡ false →
    take n (insert xs n y) ≡ take n xs
front_stays xs zero y h = refl
front_stays [] (suc n) y h = grind (arith, h)
front_stays (x ∷ xs) (suc n) y h = ap (λ ys. x ∷ ys) (front_stays xs n y (grind (arith, h)))
