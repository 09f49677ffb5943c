-- What a search for a zero byte tells.
use Rattle.std.proofs.Common.{◌≡◌, ◌==◌, ℕ, suc, true, false, not, List, [], ◌∷◌, None, Some, refl}
use Rattle.std.{proofs.Common.{ap, ⊎_elim, arith}, specs.List.list_all}
use Rattle.std.proofs.lemmas.{Bool.cases_Bool, List.Folds.list_all_at}
use Rattle.memchr.specs.Find.{IsFirstByte, is_byte}
use Rattle.do_sig.specs.Fits.{is_not_zero}

-- where none is found, no byte is zero
pub none_found : (s : List ℕ) → IsFirstByte (is_byte 0) s None → list_all is_not_zero s ≡ true
none_found [] h = refl
none_found (x ∷ xs) h =
    let first : is_not_zero x ≡ true =
    ⊎_elim (λ t. absurd (h 0 (omega arith) (omega arith) t)) (λ f. ap not f)
    (cases_Bool (x == 0)) in
    let rest : list_all is_not_zero xs ≡ true =
    none_found xs (λ k low high. h (suc k) (omega arith) (omega arith)) in
    rw (first, rest) refl

-- where one is found, not every byte is another
pub one_found : (s : List ℕ) (k : ℕ) → IsFirstByte (is_byte 0) s (Some k)
    → list_all is_not_zero s ≡ false
one_found s k h = list_all_at is_not_zero s k 0 h.0.high (ap not h.1)

pub ruleset search_tells = (none_found, one_found)
