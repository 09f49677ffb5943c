-- What a signature says of the values of a call.
use Rattle.do_sig.specs.declared.qualifiers.Direction.TheVariants as ways
use Rattle.do_sig.specs.declared.qualifiers.Passing.TheVariants as passings
use Rattle.std.specs.Prelude.{ℕ, Bool, true, false, not, ◌&&◌, ◌||◌, Option, Some, None, List}
use Rattle.std.specs.Prelude.{length, map, slice_get}
use Rattle.do_base.specs.declared.values.value.Value.{Value}
use Rattle.do_sig.specs.declared.qualifiers.{Qualifiers.Qualifiers, Qualifier.Qualifier}
use Rattle.do_sig.specs.declared.qualifiers.{Direction.Direction, Passing.Passing}
use Rattle.do_sig.specs.declared.value_type.OutermostType.{OutermostType}
use Rattle.do_sig.specs.declared.value_type.OutermostType.TheVariants.{Void, Pointer}
use Rattle.do_sig.specs.{MethodTypes.{QualifiedType, MethodType}, Fits.{outermost_fits, each_takes}}

-- a pointer that is marked as out alone carries nothing to the receiver
abbrev pub is_pointer_in : Direction → Bool
is_pointer_in ways.Out = false
is_pointer_in _ = true

-- a pointer goes both ways where nothing is marked, and a constant one goes in
abbrev pub is_pointer_out : Bool → Direction → Bool
is_pointer_out constant ways.Unmarked = not constant
is_pointer_out constant ways.In = false
is_pointer_out constant ways.InOut = true
is_pointer_out constant ways.Out = true

-- what is no pointer goes in
abbrev pub is_in : OutermostType → Qualifiers → Bool
is_in (Pointer t) q = is_pointer_in q.direction
is_in _ q = true

-- and does not come out
abbrev pub is_out : OutermostType → Qualifiers → Bool
is_out (Pointer t) q = is_pointer_out q.constant q.direction
is_out _ q = false

-- O stands there
abbrev pub is_bycopy : Passing → Bool
is_bycopy passings.ByCopy = true
is_bycopy _ = false

-- V stands before the result
abbrev pub is_oneway : MethodType → Bool
is_oneway s = s.returned.qualifiers.oneway

-- in a oneway signature nothing comes out
abbrev pub qualifier_of : Bool → QualifiedType → Qualifier
qualifier_of oneway e = record {
  goes_in = is_in e.value_type e.qualifiers;
  comes_out = not oneway && is_out e.value_type e.qualifiers;
  copy = is_bycopy e.qualifiers.passing;
}

-- what the signature says of each argument, from the first on
abbrev pub qualifiers_of : MethodType → List Qualifier
qualifiers_of s = map (qualifier_of (is_oneway s)) s.args

-- the number of arguments
abbrev pub arg_count : MethodType → ℕ
arg_count s = length s.args

-- a value fits the type, whatever its qualifiers
abbrev pub encoding_fits : QualifiedType → Value → Bool
encoding_fits e v = outermost_fits e.value_type v

-- a value fits the argument, if there is one
abbrev pub some_fits : Option QualifiedType → Value → Bool
some_fits None v = false
some_fits (Some e) v = encoding_fits e v

-- a value fits the argument at this place
abbrev pub arg_fits : MethodType → ℕ → Value → Bool
arg_fits s k v = some_fits (slice_get s.args k) v

-- as many values as arguments, and each fits
abbrev pub args_fit : MethodType → List Value → Bool
args_fit s vs = each_takes (map encoding_fits s.args) vs

-- a value fits the argument, or does not go in
abbrev pub input_fits : QualifiedType → Value → Bool
input_fits e v = not (is_in e.value_type e.qualifiers) || encoding_fits e v

-- as many values as arguments, and each that goes in fits
abbrev pub inputs_fit : MethodType → List Value → Bool
inputs_fit s vs = each_takes (map input_fits s.args) vs

-- a value fits the result
abbrev pub returned_fits : MethodType → Value → Bool
returned_fits s v = encoding_fits s.returned v

-- the type is v
abbrev pub is_void_type : OutermostType → Bool
is_void_type Void = true
is_void_type _ = false

-- the result is v
abbrev pub is_void : MethodType → Bool
is_void s = is_void_type s.returned.value_type

-- O stands before the result
abbrev pub is_returned_copied : MethodType → Bool
is_returned_copied s = is_bycopy s.returned.qualifiers.passing
