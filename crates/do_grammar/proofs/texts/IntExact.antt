-- Signed decimal numbers are read exactly.
use Rattle.std.proofs.Common.{◌≡◌, ◌≢◌, ℕ, suc, ◌-◌, ◌<◌, ◌≤◌, ◌^◌, Bool, true, false, eqb, List}
use Rattle.std.proofs.Common.{[], ◌∷◌, length, Option, Some, None, refl, sym, ap, subst, ◌∙◌, arith}
use Rattle.std.specs.{Prelude.{ℤ, pos, negsuc}, Option.option_map, Fmt.{decimal, signed_decimal}}
use Rattle.std.{specs.Int.Signed.mag, proofs.lemmas.{Bool.{eqb-true, ne_eqb}, Fmt.decimal_nonempty}}
use Rattle.do_grammar.specs.{Dec.{dec_in, minus, int_in, AllDecimal}, Words.Without}
use Rattle.do_grammar.proofs.texts.{WordBytes.some_is, DecExact.{dec_takes, dec_again, all_decimal}}

-- a mapped value stands for one
map_some : {A B : Type 0} (f : A → B) (o : Option A) (y : B) → option_map f o ≡ Some y
    → (x : A) × (o ≡ Some x) × (f x ≡ y)
map_some f None y e = absurd cc
map_some f (Some x) y e = (x, refl, some_is (f x) y e)

-- below zero by at least one
minus_above : (n : ℕ) → 1 ≤ n → minus n ≡ negsuc (n - 1)
minus_above n p = let ne : n ≢ 0 = λ (e : n ≡ 0). omega arith in rw (ne_eqb n 0 ne) refl

-- what is read is spelled so
pub int_takes : (bytes : List ℕ) (z : ℤ) → int_in bytes ≡ Some z
    → (bytes ≡ signed_decimal z) × (mag z < 2 ^ 63)
unfolding int_in
int_takes [] z e = absurd cc
int_takes (b ∷ bytes) z e = go (eqb b 45) refl
  where
    below : b ≡ 45 → option_map minus (dec_in 1 9223372036854775808 bytes) ≡ Some z
        → (b ∷ bytes ≡ signed_decimal z) × (mag z < 2 ^ 63)
    below p h =
        let m = map_some minus (dec_in 1 9223372036854775808 bytes) z h in
        let t = dec_takes 1 9223372036854775808 bytes m.0 (omega arith) m.1 in
        let least = t.1 in
        let most = t.2 in
        let value : negsuc (m.0 - 1) ≡ z = sym (minus_above m.0 least) ∙ m.2 in
        let size : suc (m.0 - 1) ≡ m.0 = omega arith in
        subst (λ (w : ℤ). (b ∷ bytes ≡ signed_decimal w)
        × (mag w < 2 ^ 63)) value (
          ap (λ (w : ℕ). w ∷ bytes) p
              ∙ ap (λ (w : List ℕ). 45 ∷ w) (t.0 ∙ ap decimal (sym size)),
          omega arith,
        )

    above : option_map (λ n. pos n) (dec_in 0 9223372036854775807 (b ∷ bytes)) ≡ Some z
        → (b ∷ bytes ≡ signed_decimal z) × (mag z < 2 ^ 63)
    above h =
        let m = map_some (λ n. pos n) (dec_in 0 9223372036854775807 (b ∷ bytes)) z h in
        let t = dec_takes 0 9223372036854775807 (b ∷ bytes) m.0 (omega arith) m.1 in
        let most = t.2 in
        subst (λ (w : ℤ). (b ∷ bytes ≡ signed_decimal w) × (mag w < 2 ^ 63)) m.2 (t.0, omega arith)

    go : (t : Bool) → eqb b 45 ≡ t → (b ∷ bytes ≡ signed_decimal z) × (mag z < 2 ^ 63)
    go true h = below (eqb-true b 45 h) (rw h at e)
    go false h = above (rw h at e)

-- digits without a sign are those of a number from 0 on
digits_first : (ds : List ℕ) → AllDecimal ds → 0 < length ds
    → int_in ds ≡ option_map (λ n. pos n) (dec_in 0 9223372036854775807 ds)
unfolding int_in
digits_first [] h lt = absurd (omega arith)
digits_first (b ∷ ds) h lt =
    let ne : b ≢ 45 = λ (e : b ≡ 45). omega (arith, h.0) in
    rw (ne_eqb b 45 ne) refl

-- and what is spelled so is read
pub int_again : (z : ℤ) → mag z < 2 ^ 63 → int_in (signed_decimal z) ≡ Some z
unfolding int_in
int_again (pos n) h =
    digits_first (decimal n) (all_decimal n (omega arith)) (decimal_nonempty n (omega arith))
    ∙ ap (option_map (λ m. pos m))
    (dec_again 0 9223372036854775807 n (omega arith) (omega arith) (omega arith))
int_again (negsuc n) h =
    let value : minus (suc n) ≡ negsuc n = minus_above (suc n) (omega arith)
    ∙ ap (λ (w : ℕ). negsuc w) (omega arith) in
    ap (option_map minus)
    (dec_again 1 9223372036854775808 (suc n) (omega arith) (omega arith) (omega arith))
    ∙ ap (λ (w : ℤ). Some w) value

-- a byte below the digits stands in none of them
Without-digits : (end : ℕ) (ds : List ℕ) → end < 48 → AllDecimal ds → Without end ds
Without-digits end [] p h = tt
Without-digits end (b ∷ ds) p h = (λ (e : b ≡ end). omega (arith, h.0), Without-digits end ds p h.2)

-- digits have no byte below that of `0` in them, and a signed number none below that of `-`
pub Without-decimal : (end n : ℕ) → end < 48 → n < 2 ^ 64 → Without end (decimal n)
Without-decimal end n p fits = Without-digits end (decimal n) p (all_decimal n fits)

-- a byte below the sign and the digits stands in no signed number
pub Without-signed : (end : ℕ) (z : ℤ) → end < 45 → mag z < 2 ^ 63 → Without end (signed_decimal z)
Without-signed end (pos n) p h = Without-decimal end n (omega arith) (omega arith)
Without-signed end (negsuc n) p h =
    (λ (e : 45 ≡ end). omega arith, Without-decimal end (suc n) (omega arith) (omega arith))
