-- Words that fit some kinds, and then some more.
use Rattle.std.proofs.Common.{◌≡◌, ℕ, suc, ◌+◌, ◌<◌, true, false, List, [], ◌∷◌, ◌++◌, length, drop}
use Rattle.std.proofs.Common.{refl, sym, ap, ◌∙◌, arith, inl, inr, zero-add}
use Rattle.std.proofs.lemmas.Bool.{cases_Bool, cond-false, cond-true}
use Rattle.do_cli.specs.{declared.form.Kind.Kind, Forms.{fitting, is_of}}

module _ (k : Kind) (ks : List Kind) (w : List ℕ) (ws : List (List ℕ)) where
  -- a word that fits
  fits_on : is_of k w ≡ true → fitting (k ∷ ks) (w ∷ ws) ≡ suc (fitting ks ws)
  fits_on e = cond-true (is_of k w) (suc (fitting ks ws)) 0 e

  -- a word that does not
  fits_not : is_of k w ≡ false → fitting (k ∷ ks) (w ∷ ws) ≡ 0
  fits_not e = cond-false (is_of k w) (suc (fitting ks ws)) 0 e

-- where a word of the first kinds is missing or does not fit, no further kind counts
pub fitting_short : (ks ms : List Kind) (ws : List (List ℕ)) → fitting ks ws < length ks →
    fitting (ks ++ ms) ws ≡ fitting ks ws
fitting_short [] ms ws lt = absurd (omega (arith, lt))
fitting_short (k ∷ ks) ms [] lt = refl
fitting_short (k ∷ ks) ms (w ∷ ws) lt = elim (cases_Bool (is_of k w)) [
  | inl e ↦
      let fewer : fitting ks ws < length ks = omega (arith, lt, fits_on k ks w ws e) in
      fits_on k (ks ++ ms) w ws e ∙ ap suc (fitting_short ks ms ws fewer)
      ∙ sym (fits_on k ks w ws e)
  | inr e ↦ fits_not k (ks ++ ms) w ws e ∙ sym (fits_not k ks w ws e)
]

-- where all of the first kinds fit, the further ones count behind them
pub fitting_whole : (ks ms : List Kind) (ws : List (List ℕ)) → fitting ks ws ≡ length ks →
    fitting (ks ++ ms) ws ≡ length ks + fitting ms (drop (length ks) ws)
fitting_whole [] ms ws e = rw zero-add refl
fitting_whole (k ∷ ks) ms [] e = absurd (omega (arith, e))
fitting_whole (k ∷ ks) ms (w ∷ ws) e = elim (cases_Bool (is_of k w)) [
  | inl is ↦
      let all : fitting ks ws ≡ length ks = omega (arith, e, fits_on k ks w ws is) in
      omega (arith, fits_on k (ks ++ ms) w ws is, fitting_whole ks ms ws all)
  | inr is ↦ absurd (omega (arith, e, fits_not k ks w ws is))
]
