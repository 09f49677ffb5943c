-- Values whose numbers and bytes a message can carry, however long and deep they are.
use Rattle.std.specs.{Prelude.{Bool, nat_lt, true, ◌^◌}, List.list_all}
use Rattle.do_base.specs.declared.values.value.Value.{Value, fold-Value}
use Rattle.do_base.specs.declared.values.value.Value.TheOpen.{List, Num, Text, Value-F}
use Rattle.do_grammar.specs.Num.{zigzag}
use Rattle.do_coder.specs.Parts.{is_bytes}

-- one level of a value, where it is known of the values inside whether they are such
abbrev pub atoms_step : Value-F Bool → Bool
atoms_step (Num z) = nat_lt (zigzag z) (2 ^ 64)
atoms_step (Text t) = is_bytes t
atoms_step (List within) = list_all (λ b. b) within
atoms_step _ = true

-- a value of numbers of 64 bits and of texts of bytes
abbrev pub has_atoms : Value → Bool
has_atoms = fold-Value Bool atoms_step
