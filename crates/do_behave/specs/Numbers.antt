-- Arithmetic and comparison, where nil counts as 0.
use Rattle.std.specs.Prelude.{ℕ, ◌^◌, Bool, true, false, nat_lt, ◌==◌, if◌then◌else◌, ℤ, pos}
use Rattle.std.specs.Prelude.{negsuc, int_lt, Option, Some, None}
use Rattle.do_base.specs.{values.Kinds.counted, declared.values.value.Value.{Value, out-Value}}
use Rattle.do_base.specs.declared.values.value.Value.{TheVariants.Num, TheOpen.Value-F}
use Rattle.do_base.specs.declared.events.exception.Exc.TheVariants.{Range}
use Rattle.do_grammar.specs.Words.{◌>>?◌}
use Rattle.do_behave.specs.{Steps.{local, gives}, declared.invocation.Invocation.Invocation}
use Rattle.do_behave.specs.declared.act.Act.{Act, TheVariants.Raise}

-- a number of 64 bits with a sign
abbrev pub is_i64 : ℤ → Bool
is_i64 (pos n) = nat_lt n (2 ^ 63)
is_i64 (negsuc n) = nat_lt n (2 ^ 63)

-- the number, where there is one of 64 bits
abbrev pub checked : ℤ → Option ℤ
checked z = if is_i64 z then Some z else None

abbrev pub truth : Bool → ℤ
truth true = pos 1
truth false = pos 0

-- gives a number, or raises Range where there is none
abbrev pub gives_number : Invocation → ℕ → Option ℤ → Act
gives_number inv into None = Raise Range
gives_number inv into (Some z) = gives inv into (Num z)

-- gives what two locals make as numbers
abbrev pub calculates : (ℤ → ℤ → Option ℤ) → Invocation → ℕ → ℕ → ℕ → Option Act
calculates f inv into left right =
    local inv left >>? counted >>? λ x. local inv right >>? counted >>? λ y.
    Some (gives_number inv into (f x y))

abbrev pub less : ℤ → ℤ → Option ℤ
less x y = Some (truth (int_lt x y))

abbrev pub zero_in : Value-F Value → Bool
zero_in Value-F.Nil = true
zero_in (Value-F.Num (pos n)) = n == 0
zero_in _ = false

-- nil or 0
abbrev pub is_zero : Value → Bool
is_zero value = zero_in (out-Value value)
