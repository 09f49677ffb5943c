-- What an answer tells that is the decimal number that bytes spell.
use Rattle.std.proofs.Common.{◌≡◌, ℕ, ◌<◌, ◌≤◌, ◌^◌, List, Option, Some, None, sym, ap, ◌∙◌, arith}
use Rattle.std.{proofs.Common.rules, specs.{Prelude.{ℤ, pos, negsuc, FitsSigned, IfSome}, Int.w64}}
use Rattle.std.specs.{Fmt.{decimal, signed_decimal}, Int.Signed.mag}
use Rattle.do_grammar.{specs.Dec.{dec_in, int_in}, proofs.texts.DecExact.{dec_takes, dec_again}}
use Rattle.do_grammar.proofs.texts.IntExact.{int_takes, int_again}

-- a number that is answered has all the bytes for its digits
pub dec_told : (low high : ℕ) (bytes : List ℕ) (o : Option ℕ) → high < 2 ^ 64
    → o ≡ dec_in low high bytes → IfSome o (λ n. bytes ≡ decimal n)
dec_told low high bytes None fits e = tt
dec_told low high bytes (Some n) fits e = (dec_takes low high bytes n fits (sym e)).0

-- and the number whose digits the bytes are is answered
pub dec_found : (low high : ℕ) (bytes : List ℕ) (o : Option ℕ) → high < 2 ^ 64
    → o ≡ dec_in low high bytes → (n : ℕ) → bytes ≡ decimal n → low ≤ n → n ≤ high → o ≡ Some n
dec_found low high bytes o fits e n d p q = e ∙ ap (dec_in low high) d
    ∙ dec_again low high n fits p q

-- a signed number that is answered has all the bytes for its spelling
pub int_told : (bytes : List ℕ) (o : Option ℤ) → o ≡ int_in bytes
    → IfSome o (λ z. bytes ≡ signed_decimal z)
int_told bytes None e = tt
int_told bytes (Some z) e = (int_takes bytes z (sym e)).0

-- a number that fits 64 bits keeps the bound on its size
below_63 : (z : ℤ) → FitsSigned w64 z → mag z < 2 ^ 63
below_63 (pos n) h = search (rules, arith)
below_63 (negsuc n) h = search (rules, arith)

-- and the signed number whose spelling the bytes are is answered
pub int_found : (bytes : List ℕ) (o : Option ℤ) → o ≡ int_in bytes → (z : ℤ)
    → bytes ≡ signed_decimal z → FitsSigned w64 z → o ≡ Some z
int_found bytes o e z d h = e ∙ ap int_in d ∙ int_again z (below_63 z h)
