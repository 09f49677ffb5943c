-- One step of reading values up to a byte that ends them.
use Rattle.std.proofs.Common.{◌≡◌, ◌≢◌, ℕ, suc, ◌<◌, Bool, true, false, eqb, List, [], ◌∷◌, ◌++◌}
use Rattle.std.proofs.Common.{length, Result, Ok, refl, ap, ◌∙◌, arith, inl, inr}
use Rattle.std.specs.Prelude.{◌⊎◌}
use Rattle.std.proofs.lemmas.{Bool.{eqb-true, eqb-false, eq-eqb, ne_eqb}, List.length-append}
use Rattle.do_grammar.specs.{Reader.{Stop, Reader, ◌>>=◌, until_within}, Grammar.Takes, Forms.Apart}

-- two numbers are equal or not
pub cases_eq : (a b : ℕ) → (a ≡ b) ⊎ (a ≢ b)
cases_eq a b = go (eqb a b) refl
  where
    go : (t : Bool) → eqb a b ≡ t → (a ≡ b) ⊎ (a ≢ b)
    go true e = inl (eqb-true a b e)
    go false e = inr (eqb-false a b e)

-- the others behind a value
abbrev pub tail_of : {K A : Type 0} → A → List A × List ℕ → Result (List A × List ℕ) (Stop K)
tail_of x ys = Ok (x ∷ ys.0, ys.1)

module _ {K A : Type 0} (end : ℕ) (r : Reader K A) where
  -- the others behind what was read
  abbrev pub rest_of : ℕ → A × List ℕ → Result (List A × List ℕ) (Stop K)
  rest_of n x = until_within end r n x.1 >>= tail_of x.0

  -- at the byte that ends them there is no more value
  pub step_end : (n b : ℕ) (bytes : List ℕ) → b ≡ end
      → until_within end r (suc n) (b ∷ bytes) ≡ Ok ([], bytes)
  step_end n b bytes e = rw (eq-eqb b end e) refl

  -- at another byte one more value is read
  pub step_on : (n b : ℕ) (bytes : List ℕ) → b ≢ end
      → until_within end r (suc n) (b ∷ bytes)
      ≡ (r (b ∷ bytes) >>= λ x. until_within end r n x.1 >>= λ xs. Ok (x.0 ∷ xs.0, xs.1))
  step_on n b bytes ne = rw (ne_eqb b end ne) refl

module _ {A : Type 0} (end : ℕ) (G : List ℕ → A → Type 0)
    (apart : (text : List ℕ) (x : A) → G text x → Apart end text) where
  -- a value that was read leaves fewer bytes
  pub shorter : (bytes : List ℕ) (x : A) (rest : List ℕ) (n : ℕ) → length bytes < suc n
      → Takes G bytes x rest → length rest < n
  shorter bytes x rest n lt t = go t.text (apart t.text x t.spelled) t.parts
    where
      go : (text : List ℕ) → Apart end text → bytes ≡ text ++ rest → length rest < n
      go [] a p = absurd a
      go (b ∷ text) a p = omega (arith, ap length p ∙ length-append (b ∷ text) rest)
