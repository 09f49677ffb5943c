-- How values are written.
use Rattle.std.specs.{Prelude.{ℕ, List, [], ◌∷◌, ◌++◌, codes, decimal}, List.flat_map}
use Rattle.std.specs.Fmt.{signed_decimal}
use Rattle.do_base.specs.{names.Names.ObjectName, declared.values.value.Value.{Value, fold-Value}}
use Rattle.do_base.specs.declared.values.value.Value.TheOpen.{Value-F}
use Rattle.do_grammar.specs.Quoted.{quoted}

-- a hash, the port of the home, a dot and the serial
abbrev pub object_name : ObjectName → List ℕ
object_name o = 35 ∷ decimal o.node ++ 46 ∷ decimal o.serial

-- words with a space before each
abbrev pub spaced : List (List ℕ) → List ℕ
spaced = flat_map (λ word. 32 ∷ word)

-- words with a space between each two
abbrev pub between : List (List ℕ) → List ℕ
between [] = []
between (word ∷ words) = word ++ spaced words

-- one level, the values inside already written
abbrev pub value_step : Value-F (List ℕ) → List ℕ
value_step Value-F.Nil = codes "nil"
value_step (Value-F.Num n) = signed_decimal n
value_step (Value-F.Text text) = quoted text
value_step (Value-F.Obj o) = object_name o
value_step (Value-F.List words) = 91 ∷ between words ++ 93 ∷ []

-- a value: `nil`, a number, a text in quotes, an object's name, or values in brackets
abbrev pub value_text : Value → List ℕ
value_text = fold-Value (List ℕ) value_step
