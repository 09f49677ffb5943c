-- Which values fit which types.
use Rattle.std.specs.Prelude.{ℕ, ◌==◌, ◌&&◌, ◌||◌, Bool, true, false, not, int_le, ℤ, pos, negsuc}
use Rattle.std.specs.{Prelude.{List as Listed, [], ◌∷◌, length}, List.list_all}
use Rattle.do_base.specs.declared.values.value.Value.{Value, out-Value}
use Rattle.do_base.specs.declared.values.value.Value.TheOpen.{Value-F, Nil, Num, Text, Obj, List}
use Rattle.do_sig.specs.declared.value_type.Scalar.{Scalar, TheVariants.{SignedChar, Short, Int}}
use Rattle.do_sig.specs.declared.value_type.Scalar.TheVariants.{Long, LongLong, UnsignedChar}
use Rattle.do_sig.specs.declared.value_type.Scalar.TheVariants.{UnsignedShort, UnsignedInt}
use Rattle.do_sig.specs.declared.value_type.Scalar.TheVariants.{UnsignedLong, UnsignedLongLong}
use Rattle.do_sig.specs.declared.value_type.Scalar.TheVariants.{Boolean, CString, Object, Class}
use Rattle.do_sig.specs.declared.value_type.{Scalar.TheVariants.Selector, ValueType.ValueType}
use Rattle.do_sig.specs.declared.value_type.ValueType.{fold-ValueType, TheOpen.ValueType-F}
use Rattle.do_sig.specs.declared.value_type.ValueType.TheOpen.{Simple, Array, Structure}
use Rattle.do_sig.specs.declared.value_type.OutermostType.{OutermostType}
use Rattle.do_sig.specs.declared.value_type.OutermostType.TheVariants.{Void, Pointer, Plain}
use Rattle.do_grammar.specs.Names.{is_name, is_selector}

-- a number from the least to the greatest
abbrev pub within : ℤ → ℤ → ℤ → Bool
within least greatest n = int_le least n && int_le n greatest

-- the numbers that fit, from the least to the greatest
abbrev pub takes_number : Scalar → ℤ → Bool
takes_number SignedChar n = within (negsuc 127) (pos 127) n
takes_number Short n = within (negsuc 32767) (pos 32767) n
takes_number Int n = within (negsuc 2147483647) (pos 2147483647) n
takes_number Long n = true
takes_number LongLong n = true
takes_number UnsignedChar n = within (pos 0) (pos 255) n
takes_number UnsignedShort n = within (pos 0) (pos 65535) n
takes_number UnsignedInt n = within (pos 0) (pos 4294967295) n
takes_number UnsignedLong n = int_le (pos 0) n
takes_number UnsignedLongLong n = int_le (pos 0) n
takes_number Boolean n = within (pos 0) (pos 1) n
takes_number Object n = true
takes_number _ n = false

-- nil fits
abbrev pub takes_nil : Scalar → Bool
takes_nil CString = true
takes_nil Object = true
takes_nil Class = true
takes_nil Selector = true
takes_nil _ = false

-- a byte other than zero
abbrev pub is_not_zero : ℕ → Bool
is_not_zero b = not (b == 0)

-- a text without a zero byte, a name, a selector, or any text
abbrev pub takes_text : Scalar → Listed ℕ → Bool
takes_text CString s = list_all is_not_zero s
takes_text Object s = true
takes_text Class s = is_name s
takes_text Selector s = is_selector s
takes_text _ s = false

-- every value fits
abbrev pub takes_all : Scalar → Bool
takes_all Object = true
takes_all _ = false

-- a value fits a type of one letter, by its kind
abbrev pub takes : Scalar → Value-F Value → Bool
takes s Nil = takes_nil s
takes s (Num n) = takes_number s n
takes s (Text t) = takes_text s t
takes s (Obj o) = takes_all s
takes s (List vs) = takes_all s

-- a value fits a type of one letter
abbrev pub simple_fits : Scalar → Value → Bool
simple_fits s v = takes s (out-Value v)

-- as many values as tests, and each passes its own
abbrev pub each_takes : Listed (Value → Bool) → Listed Value → Bool
each_takes [] [] = true
each_takes (f ∷ fs) (v ∷ vs) = f v && each_takes fs vs
each_takes _ _ = false

-- a list that passes a test
abbrev pub is_list_that : (Listed Value → Bool) → Value-F Value → Bool
is_list_that test (List vs) = test vs
is_list_that test _ = false

-- a list of as many values as the count says that fit one type, or of one for each type
abbrev pub fits_step : ValueType-F (Value → Bool) → Value → Bool
fits_step (Simple s) v = simple_fits s v
fits_step (Array count item) v =
    is_list_that (λ vs. (length vs == count) && list_all item vs) (out-Value v)
fits_step (Structure name members) v = is_list_that (each_takes members) (out-Value v)

-- a value fits a type
abbrev pub fits : ValueType → Value → Bool
fits = fold-ValueType (Value → Bool) fits_step

-- the value is nil
abbrev pub is_nil : Value-F Value → Bool
is_nil Nil = true
is_nil _ = false

-- the same where the type stands outermost
abbrev pub outermost_fits : OutermostType → Value → Bool
outermost_fits Void v = is_nil (out-Value v)
outermost_fits (Pointer t) v = is_nil (out-Value v) || fits t v
outermost_fits (Plain t) v = fits t v
