-- What a local remembers of its value: its weight.
use Rattle.std.specs.Prelude.{◌≡◌, ℕ, zero, suc, true}
use Rattle.do_base.specs.{values.Values.weight_of, declared.values.value.Value.Value}
use Rattle.do_behave.specs.Limits.{nests_within}

-- a value, as contracts see it
abbrev pub Tree : Type 0
Tree = Value

-- nothing at 0; else the value's weight, and that it keeps the limit on nesting
abbrev pub IsKnown : Value → ℕ → Type 0
IsKnown value zero = Unit {0}
IsKnown value (suc n) = (weight_of value ≡ suc n) × (nests_within value 8 ≡ true)
