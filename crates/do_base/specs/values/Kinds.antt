-- Questions on a value. Each is answered by its outermost level alone.
use Rattle.std.specs.Prelude.{ℕ, ℤ, pos, Bool, true, false, Option, Some, None, List as Listed}
use Rattle.do_base.specs.{names.Names.ObjectName, declared.values.value.Value.{Value, out-Value}}
use Rattle.do_base.specs.declared.values.value.Value.TheOpen.{Value-F}

abbrev level_number : Value-F Value → Option ℤ
level_number (Value-F.Num n) = Some n
level_number _ = None

-- the number that a value is
abbrev pub number : Value → Option ℤ
number v = level_number (out-Value v)

abbrev level_counted : Value-F Value → Option ℤ
level_counted Value-F.Nil = Some (pos 0)
level_counted (Value-F.Num n) = Some n
level_counted _ = None

-- the number that a value counts as: nil counts as 0
abbrev pub counted : Value → Option ℤ
counted v = level_counted (out-Value v)

abbrev level_text : Value-F Value → Option (Listed ℕ)
level_text (Value-F.Text bytes) = Some bytes
level_text _ = None

-- the bytes of the text that a value is
abbrev pub text : Value → Option (Listed ℕ)
text v = level_text (out-Value v)

abbrev level_object : Value-F Value → Option ObjectName
level_object (Value-F.Obj o) = Some o
level_object _ = None

-- the object that a value is
abbrev pub object : Value → Option ObjectName
object v = level_object (out-Value v)

abbrev level_items : Value-F Value → Option (Listed Value)
level_items (Value-F.List vs) = Some vs
level_items _ = None

-- the items of the list that a value is
abbrev pub items : Value → Option (Listed Value)
items v = level_items (out-Value v)

abbrev level_is_nil : Value-F Value → Bool
level_is_nil Value-F.Nil = true
level_is_nil _ = false

-- a value is nil
abbrev pub is_nil : Value → Bool
is_nil v = level_is_nil (out-Value v)
