-- Pairs of as many members as the shorter of two lists has.
use Rattle.std.{proofs.Common.{◌≡◌, List, [], ◌∷◌, length, take, refl, ap}, specs.List.zip}

pub short_right : {K X : Type 0} (xs : List K) (ys : List X) →
    zip xs (take (length xs) ys) ≡ zip xs ys
short_right [] [] = refl
short_right [] (y ∷ ys) = refl
short_right (x ∷ xs) [] = refl
short_right (x ∷ xs) (y ∷ ys) = ap (λ ps. (x, y) ∷ ps) (short_right xs ys)

pub short_left : {K X : Type 0} (xs : List K) (ys : List X) →
    zip (take (length ys) xs) ys ≡ zip xs ys
short_left [] [] = refl
short_left [] (y ∷ ys) = refl
short_left (x ∷ xs) [] = refl
short_left (x ∷ xs) (y ∷ ys) = ap (λ ps. (x, y) ∷ ps) (short_left xs ys)

pub ruleset pair_steps = (short_right, short_left)
