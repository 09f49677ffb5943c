-- The letters of types: each is its type's.
use Rattle.std.proofs.Common.{◌≡◌, ℕ, Bool, true, false, List, [], ◌∷◌, map, Some, refl, sym}
use Rattle.std.{specs.Prelude.{◌||◌, ◌==◌}, proofs.lemmas.Bool.eqb-true}
use Rattle.do_sig.specs.declared.value_type.Scalar.{Scalar}
use Rattle.do_sig.specs.Letters.{letter_of, scalars, with_letter, is_one_of, is_letter}

-- the type of a letter is found, and has this letter
pub record Named (ss : List Scalar) (b : ℕ) : Type 0 where
  pub scalar : Scalar
  pub found : with_letter ss b ≡ Some scalar
  pub letter : letter_of scalar ≡ b

-- a letter of some types is found among them
named_in : (ss : List Scalar) (b : ℕ) → is_one_of b (map letter_of ss) ≡ true → Named ss b
named_in [] b e = absurd cc
named_in (s ∷ ss) b e = go (λ k. named_in ss b k) (b == letter_of s) refl e
  where
    go : (is_one_of b (map letter_of ss) ≡ true → Named ss b) → (t : Bool)
        → (b == letter_of s) ≡ t → (t || is_one_of b (map letter_of ss)) ≡ true → Named (s ∷ ss) b
    go again true q k =
        record { scalar = s; found = rw q refl; letter = sym (eqb-true b (letter_of s) q) }
    go again false q k =
        let n = again k in record { scalar = n.scalar; found = rw q n.found; letter = n.letter }

-- each letter is found
pub letter_named : (b : ℕ) → is_letter b ≡ true → Named scalars b
letter_named b e = named_in scalars b e
