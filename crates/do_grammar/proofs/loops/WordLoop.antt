-- The turns of the loops that look for the first of a byte.
use Rattle.std.proofs.Common.{◌≡◌, ◌≢◌, ℕ, zero, suc, ◌+◌, ◌<◌, ◌≤◌, List, [], ◌∷◌, ◌++◌, length}
use Rattle.std.{proofs.Common.{get_or, take, drop, sym, ap, subst, arith}, specs.Prelude.◌-◌}
use Rattle.std.proofs.lemmas.List.{take_all, length-drop, take-append-drop, append-nil}
use Rattle.do_grammar.specs.Words.{Without, EndsBefore}

-- where the byte stands not yet among the first n bytes
pub still_clear : (end n : ℕ) (bytes : List ℕ) → get_or bytes n 0 ≢ end → Without end (take n bytes)
    → Without end (take (n + 1) bytes)
still_clear end n [] ne clear = let more : n + 1 ≡ suc n = omega arith in rw more tt
still_clear end zero (b ∷ bytes) ne clear = (ne, tt)
still_clear end (suc n) (b ∷ bytes) ne clear =
    let more : suc n + 1 ≡ suc (n + 1) = omega arith in
    rw more (clear.0, still_clear end n bytes ne clear.1)

-- the byte stands nowhere in all that was passed over
pub stands_nowhere : (end n : ℕ) (bytes : List ℕ) → length bytes ≤ n → Without end (take n bytes)
    → Without end bytes
stands_nowhere end n bytes le clear = subst (Without end) (take_all n bytes le) clear

-- the bytes behind place n, as the code cuts them off
back : (n : ℕ) (bytes : List ℕ) → take (length bytes - n) (drop n bytes) ≡ drop n bytes
back n bytes = take_all (length bytes - n) (drop n bytes) (omega (arith, length-drop n bytes))

-- the byte parts what stands before it from what stands behind it
around : (end n : ℕ) (bytes : List ℕ) → n < length bytes → get_or bytes n 0 ≡ end
    → bytes ≡ take n bytes ++ end ∷ drop (n + 1) bytes
around end n [] lt e = absurd (omega arith)
around end zero (b ∷ bytes) lt e = ap (λ (w : ℕ). w ∷ bytes) e
around end (suc n) (b ∷ bytes) lt e =
    let more : suc n + 1 ≡ suc (n + 1) = omega arith in
    rw more (ap (λ (w : List ℕ). b ∷ w) (around end n bytes (omega arith) e))

-- the same, with the bytes behind it as a slice has them
pub word_parts : (end n : ℕ) (bytes : List ℕ) → n < length bytes → get_or bytes n 0 ≡ end
    → bytes ≡ take n bytes ++ end ∷ take (length bytes - (n + 1)) (drop (n + 1) bytes)
word_parts end n bytes lt e = rw (back (n + 1) bytes) (around end n bytes lt e)

-- what was passed over and what was not are all the bytes
pub part_parts : (n : ℕ) (bytes : List ℕ)
    → bytes ≡ take n bytes ++ take (length bytes - n) (drop n bytes)
part_parts n bytes = rw (back n bytes) (sym (take-append-drop n bytes))

-- nothing stands behind all the bytes
pub no_parts : (bytes : List ℕ) → bytes ≡ bytes ++ []
no_parts bytes = sym (append-nil bytes)

-- what was not passed over begins with the byte
ends_at : (end n : ℕ) (bytes : List ℕ) → n < length bytes → get_or bytes n 0 ≡ end
    → EndsBefore end (drop n bytes)
ends_at end n [] lt e = absurd (omega arith)
ends_at end zero (b ∷ bytes) lt e = e
ends_at end (suc n) (b ∷ bytes) lt e = ends_at end n bytes (omega arith) e

-- the same, as a slice has it
pub part_ends : (end n : ℕ) (bytes : List ℕ) → n < length bytes → get_or bytes n 0 ≡ end
    → EndsBefore end (take (length bytes - n) (drop n bytes))
part_ends end n bytes lt e = subst (EndsBefore end) (sym (back n bytes)) (ends_at end n bytes lt e)

pub ruleset word_facts = (stands_nowhere, word_parts, part_parts, no_parts, part_ends)
