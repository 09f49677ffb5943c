-- What the next letter of the qualifiers gives.
use Rattle.std.proofs.Common.{◌≡◌, ℕ, suc, true, false, List, ◌∷◌, length, Some, None, Ok, Err}
use Rattle.std.proofs.Common.{refl}
use Rattle.do_grammar.specs.Reader.{bad, scan_to}
use Rattle.do_sig.specs.declared.{fault.Kind.TheVariants.BadChar, outermost.place.Place.Place}
use Rattle.do_sig.specs.{declared.qualifiers.Qualifiers.Qualifiers, Letters.is_qualifier}
use Rattle.do_sig.specs.Marks.{qualifier_step, marked}

-- a letter that may stand there is added
pub letter_adds : (place : Place) (q t : Qualifiers) (b : ℕ) (rest : List ℕ)
    → is_qualifier b ≡ true → marked place q b ≡ Some t
    → scan_to (qualifier_step place) q (b ∷ rest) ≡ scan_to (qualifier_step place) t rest
letter_adds place q t b rest e h = rw (e, h) refl

-- one that may not stops the reading
pub letter_fails : (place : Place) (q : Qualifiers) (b : ℕ) (rest : List ℕ)
    → is_qualifier b ≡ true → marked place q b ≡ None
    → scan_to (qualifier_step place) q (b ∷ rest) ≡ Err (bad BadChar (suc (length rest)))
letter_fails place q b rest e h = rw (e, h) refl

-- any other byte ends the qualifiers
pub letter_leaves : (place : Place) (q : Qualifiers) (b : ℕ) (rest : List ℕ)
    → is_qualifier b ≡ false → scan_to (qualifier_step place) q (b ∷ rest) ≡ Ok (q, b ∷ rest)
letter_leaves place q b rest e = rw e refl

pub ruleset qualifying = (letter_adds, letter_fails, letter_leaves)
