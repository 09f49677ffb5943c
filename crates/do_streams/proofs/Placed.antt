-- What stands at a place, and what a call gave.
use Rattle.std.proofs.Common.{◌≡◌, ℕ, zero, suc, false, T, List, [], ◌∷◌, Some, None, Option}
use Rattle.std.proofs.Common.{is_some, get_or, refl, ap, sym, ◌∙◌, subst}
use Rattle.std.specs.Prelude.{IfOk, OnErr, Result, Ok, Err, slice_get, slice_set}

-- what is not there is None
pub none_of : {X : Type 0} (o : Option X) → is_some o ≡ false → o ≡ None
none_of None e = refl
none_of (Some x) e = absurd (subst T e tt)

-- a list begins with one element
pub one_front : {X : Type 0} (xs : List X) (x y : X) → slice_get xs 0 ≡ Some x →
    Some y ≡ slice_get xs 0 → x ≡ y
one_front xs x y e f = let same : Some y ≡ Some x = f ∙ e in cc

-- an element stands at its place
got_at : {X : Type 0} (xs : List X) (i : ℕ) (e d : X) → slice_get xs i ≡ Some e →
    get_or xs i d ≡ e
got_at [] i e d h = absurd (cc)
got_at (y ∷ ys) zero e d h = let same : y ≡ e = cc in same
got_at (y ∷ ys) (suc i) e d h = got_at ys i e d h

-- so in an equal list
pub is_at : {X : Type 0} (xs ys : List X) (i : ℕ) (e d : X) → ys ≡ xs → slice_get xs i ≡ Some e →
    get_or ys i d ≡ e
is_at xs ys i e d same there = ap (λ zs. get_or zs i d) same ∙ got_at xs i e d there

-- what is set as it was stays
pub set_same : {X : Type 0} (xs : List X) (i : ℕ) (x : X) → slice_get xs i ≡ Some x →
    slice_set xs i x ≡ xs
set_same [] i x e = absurd (cc)
set_same (y ∷ ys) zero x e = let same : y ≡ x = cc in ap (λ v. v ∷ ys) (sym same)
set_same (y ∷ ys) (suc i) x e = ap (λ vs. y ∷ vs) (set_same ys i x e)

-- a fact holds where a call failed
pub on_err : {A E : Type 0} {P : Type 0} (r : Result A E) → P → OnErr r P
on_err (Ok x) p = tt
on_err (Err e) p = p

-- what follows of a value holds where a call gave one
pub if_ok : {A E : Type 0} {P Q : A → Type 0} (r : Result A E) → ((x : A) → P x → Q x) →
    IfOk r P → IfOk r Q
if_ok (Ok x) f p = f x p
if_ok (Err e) f p = tt
