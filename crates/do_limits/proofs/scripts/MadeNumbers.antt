-- The numbers and the texts that scripts make or raise can be carried.
use Rattle.std.proofs.Common.{◌≡◌, ◌*◌, ◌+◌, ◌<◌, ◌≤◌, ◌^◌, ℕ, ℤ, Bool, true, false, List as Listed}
use Rattle.std.proofs.Common.{length, refl, sym, subst, arith, rules, ◌∙◌}
use Rattle.std.specs.{Prelude.{None, Some, nat_le, nat_lt, negsuc, pos}, Option.IfSome}
use Rattle.std.proofs.lemmas.Bool.{and_parts, Decides.nat_tests}
use Rattle.do_base.specs.{names.Names.ObjectName, values.Induction.value_induction}
use Rattle.do_base.specs.values.{Kinds.{number, text}, Texts.longest_text}
use Rattle.do_base.specs.declared.events.exception.Exc.TheVariants.{User}
use Rattle.do_base.specs.declared.values.value.Value.{List, Value, the_lemmas}
use Rattle.do_base.specs.declared.values.value.Value.TheVariants.{Nil, Num, Obj, Text}
use Rattle.do_coder.{specs.Parts.is_bytes, proofs.values.PartFacts.all_bytes}
use Rattle.do_behave.specs.{Numbers.{is_i64, truth}, laws.ValueKinds.by_text}
use Rattle.do_grammar.specs.Num.{zigzag}
use Rattle.do_limits.specs.Sendable.{IsSendable, IsSendableExc}
use Rattle.do_limits.proofs.values.Carried.{carry-Num, carry-Text}

-- a number below 2^64 by its zigzag
small_number : (z : ℤ) (n : ℕ) → zigzag z ≡ n → n < 2 ^ 64 → IsSendable (Num z)
small_number z n e lt = carry-Num 8 z ∙ less (zigzag z) n e lt
  where
    less : (m n : ℕ) → m ≡ n → n < 18446744073709551616 → nat_lt m 18446744073709551616 ≡ true
    less m n e lt = grind (arith, nat_tests, e, lt)

-- a number of 64 bits
pub i64_sendable : (z : ℤ) → is_i64 z ≡ true → IsSendable (Num z)
i64_sendable (pos n) e = small_number (pos n) (2 * n) refl (half n e)
  where
    half : (n : ℕ) → nat_lt n 9223372036854775808 ≡ true → 2 * n < 18446744073709551616
    half n e = grind (arith, nat_tests, e)
i64_sendable (negsuc n) e = small_number (negsuc n) (2 * n + 1) refl (half n e)
  where
    half : (n : ℕ) → nat_lt n 9223372036854775808 ≡ true → 2 * n + 1 < 18446744073709551616
    half n e = grind (arith, nat_tests, e)

-- a truth
pub truth_sendable : (b : Bool) → IsSendable (Num (truth b))
truth_sendable true = i64_sendable (pos 1) refl
truth_sendable false = i64_sendable (pos 0) refl

-- a count
pub count_sendable : (n : ℕ) → n ≤ 1048575 → IsSendable (Num (pos n))
count_sendable n few = small_number (pos n) (2 * n) refl (omega (arith, few))

-- the number of a value
pub number_kept : (v : Value) → IsSendable v → IfSome (number v) (λ z. IsSendable (Num z))
number_kept =
    value_induction (λ v. IsSendable v → IfSome (number v) (λ z. IsSendable (Num z)))
    (λ h. subst (λ o. IfSome o (λ z. IsSendable (Num z))) (sym number-Nil) tt)
    (λ n h. subst (λ o. IfSome o (λ z. IsSendable (Num z))) (sym (number-Num n)) h)
    (λ s h. subst (λ o. IfSome o (λ z. IsSendable (Num z))) (sym (number-Text s)) tt)
    (λ o h. subst (λ o. IfSome o (λ z. IsSendable (Num z))) (sym (number-Obj o)) tt)
    (λ vs k h. subst (λ o. IfSome o (λ z. IsSendable (Num z))) (sym (number-List vs)) tt)
  where
    number-Nil : number Nil ≡ None
    number-Nil = search (rules, the_lemmas)

    number-Num : (n : ℤ) → number (Num n) ≡ Some n
    number-Num n = search (rules, the_lemmas)

    number-Text : (s : Listed ℕ) → number (Text s) ≡ None
    number-Text s = search (rules, the_lemmas)

    number-Obj : (o : ObjectName) → number (Obj o) ≡ None
    number-Obj o = search (rules, the_lemmas)

    number-List : (vs : Listed Value) → number (List vs) ≡ None
    number-List vs = search (rules, the_lemmas)

-- the text of a value can be raised
pub text_kept : (v : Value) → IsSendable v → IfSome (text v) (λ s. IsSendableExc (User s))
text_kept =
    by_text (λ o v. IsSendable v → IfSome o (λ s. IsSendableExc (User s))) (λ v h. tt)
    (λ s h.
    let parts = and_parts (nat_le (length s) longest_text) (is_bytes s)
    (sym (carry-Text 8 s) ∙ h) in
    (at_most (length s) parts.0, all_bytes s parts.1))
  where
    at_most : (n : ℕ) → nat_le n 1048575 ≡ true → n ≤ 1048575
    at_most n e = grind (arith, nat_tests, e)
