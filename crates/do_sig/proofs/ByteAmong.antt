-- What holds of each of some bytes holds of a byte that is among them.
use Rattle.std.proofs.Common.{◌≡◌, ℕ, Bool, true, false, ltb, List, [], ◌∷◌, map, refl, sym, subst}
use Rattle.std.{specs.{Prelude.{◌||◌, ◌&&◌, ◌==◌}, List.list_all}, proofs.lemmas.Bool.eqb-true}
use Rattle.do_sig.specs.{Letters.{letter_of, scalars, is_one_of, is_letter}, Blame.begins_type}
use Rattle.do_sig.proofs.TestsPass.{both_pass}

-- what holds of each of some bytes holds of a byte among them
pub one_of_all : (p : ℕ → Bool) (cs : List ℕ) → list_all p cs ≡ true → (b : ℕ)
    → is_one_of b cs ≡ true → p b ≡ true
one_of_all p [] h b e = absurd cc
one_of_all p (c ∷ cs) h b e =
    let parts = both_pass (p c) (list_all p cs) h in
    go (λ k. one_of_all p cs parts.1 b k) parts.0 (b == c) refl e
  where
    go : (is_one_of b cs ≡ true → p b ≡ true) → p c ≡ true → (t : Bool) → (b == c) ≡ t
        → (t || is_one_of b cs) ≡ true → p b ≡ true
    go again h true q e = subst (λ (n : ℕ). p n ≡ true) (sym (eqb-true b c q)) h
    go again h false q e = again e

-- what holds of the letter of each type holds of each letter
pub letters_all : (p : ℕ → Bool) → list_all p (map letter_of scalars) ≡ true → (b : ℕ)
    → is_letter b ≡ true → p b ≡ true
letters_all p h b e = one_of_all p (map letter_of scalars) h b e

-- what holds of each letter and of both brackets holds of a byte that begins a type
pub types_all : (p : ℕ → Bool) → list_all p (map letter_of scalars) ≡ true → p 91 ≡ true
    → p 123 ≡ true → (d b : ℕ) → begins_type d b ≡ true → p b ≡ true
types_all p h square curly d b e = go (is_letter b) (b == 91) (b == 123) refl refl refl e
  where
    go : (t u v : Bool) → is_letter b ≡ t → (b == 91) ≡ u → (b == 123) ≡ v
        → (t || ((u || v) && ltb 0 d)) ≡ true → p b ≡ true
    go true u v l q r k = letters_all p h b l
    go false true v l q r k = subst (λ (n : ℕ). p n ≡ true) (sym (eqb-true b 91 q)) square
    go false false true l q r k = subst (λ (n : ℕ). p n ≡ true) (sym (eqb-true b 123 r)) curly
    go false false false l q r k = absurd cc
