-- The limits on a value: bytes of its texts, items and nesting of its lists, and its weight.
use Rattle.std.specs.Prelude.{ℕ, zero, suc, ◌≤◌, ◌-◌, Bool, true, false, ◌&&◌, nat_le, IsTrue}
use Rattle.std.specs.{Prelude.{length, Option, Some, None, if◌then◌else◌}, List.list_all}
use Rattle.do_base.specs.values.{Texts.longest_text, Values.weight_of}
use Rattle.do_base.specs.declared.values.value.Value.{Value, fold-Value}
use Rattle.do_base.specs.declared.values.value.Value.TheOpen.{Value-F, Text, List}
use Rattle.do_base.specs.declared.events.exception.Exc.{Exc, TheVariants.User}

abbrev pub nests_step : Value-F (ℕ → Bool) → ℕ → Bool
nests_step (List items) zero = false
nests_step (List items) (suc depth) = list_all (λ within. within depth) items
nests_step _ depth = true

-- no more than so many lists stand inside one another, where a list alone is one
abbrev pub nests_within : Value → ℕ → Bool
nests_within = fold-Value (ℕ → Bool) nests_step

abbrev pub parts_step : Value-F Bool → Bool
parts_step (Text s) = nat_le (length s) longest_text
parts_step (List items) = nat_le (length items) 1024 && list_all (λ within. within) items
parts_step _ = true

-- each text has at most `longest_text` bytes, and each list at most 1,024 items
abbrev pub has_small_parts : Value → Bool
has_small_parts = fold-Value Bool parts_step

-- a value within the limits, that weighs no more than this
pub record IsLimited (most : ℕ) (value : Value) : Type 0 where
  pub parts : IsTrue (has_small_parts value)
  pub nesting : IsTrue (nests_within value 8)
  pub weight : weight_of value ≤ most

-- an exception whose text is within the limit
abbrev pub IsLimitedExc : Exc → Type 0
IsLimitedExc (User text) = length text ≤ longest_text
IsLimitedExc _ = Unit {0}

-- what is left of a limit behind a weight; none where it is passed
abbrev pub left_of : ℕ → ℕ → Option ℕ
left_of most weight = if nat_le weight most then Some (most - weight) else None
