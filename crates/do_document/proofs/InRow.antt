-- The first of several checks in a row that finds a fault.
use Rattle.std.proofs.Common.{◌≡◌, List, [], ◌∷◌, Option, None, refl, ◌∙◌, inl, inr, Result, Ok}
use Rattle.std.proofs.Common.{Err}
use Rattle.do_document.specs.{Checks.first_of, Finding.Finds, declared.fault.WorldFault.WorldFault}
use Rattle.do_document.proofs.InOrder.{Tells, in_first, two_none, two_second}

-- a fault of an equal check is told
pub told_by : (a b : Option WorldFault) (e : WorldFault) → a ≡ b → Tells b e → Tells a e
told_by a b e same (inl m) = inl m
told_by a b e same (inr h) = inr (same ∙ h)

-- the first check finds one
pub row_first : (a : Option WorldFault) (more : List (Option WorldFault)) (e : WorldFault)
    → Tells a e → Tells (first_of (a ∷ more)) e
row_first a more e h = in_first a (first_of more) e h

-- the first check finds none, and one behind it does
pub row_next : (a : Option WorldFault) (more : List (Option WorldFault)) (e : WorldFault)
    → a ≡ None → Tells (first_of more) e → Tells (first_of (a ∷ more)) e
row_next a more e n h = rw n h

-- no check finds one
pub row_none : (a : Option WorldFault) (more : List (Option WorldFault)) → a ≡ None
    → first_of more ≡ None → first_of (a ∷ more) ≡ None
row_none a more n m = rw (n, m) refl

-- what the second of two in a row finds, where the first finds none
pub second_found : {A : Type 0} (a b : Option WorldFault) (says : A → Type 0)
    (result : Result A WorldFault) → a ≡ None → Finds b says result
    → Finds (first_of (a ∷ b ∷ [])) says result
second_found a b says (Ok x) none h = (two_none a b none h.0, h.1)
second_found a b says (Err e) none h = two_second a b e none h
