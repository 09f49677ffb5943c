-- Encodings without qualifiers.
use Rattle.do_sig.specs.declared.qualifiers.Direction.TheVariants as ways
use Rattle.do_sig.specs.declared.qualifiers.Passing.TheVariants as passings
use Rattle.std.specs.Prelude.{false, Option, Some, None, List, map}
use Rattle.do_sig.specs.declared.{qualifiers.Qualifiers.Qualifiers, value_type.Scalar.Scalar}
use Rattle.do_sig.specs.declared.value_type.ValueType.TheVariants.{Simple}
use Rattle.do_sig.specs.declared.value_type.OutermostType.TheVariants.{Void, Plain}
use Rattle.do_sig.specs.MethodTypes.{QualifiedType, MethodType}

-- no qualifiers
abbrev pub bare : Qualifiers
bare =
    record {
      oneway = false;
      constant = false;
      direction = ways.Unmarked;
      passing = passings.Unmarked;
    }

-- a type of one letter
abbrev pub simple_encoding : Scalar → QualifiedType
simple_encoding s = record { qualifiers = bare; value_type = Plain (Simple s) }

-- the type v
abbrev pub void_encoding : QualifiedType
void_encoding = record { qualifiers = bare; value_type = Void }

-- a type of one letter, or v for none
abbrev pub simple_result : Option Scalar → QualifiedType
simple_result None = void_encoding
simple_result (Some s) = simple_encoding s

-- a signature of types of one letter
abbrev pub simple_method : Option Scalar → List Scalar → MethodType
simple_method returned args =
    record { returned = simple_result returned; args = map simple_encoding args }
