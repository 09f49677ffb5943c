-- Encodings and signatures as what they are made of.
use Rattle.std.specs.{Prelude.{◌≤◌, List, length}, List.AllByRecursion}
use Rattle.do_sig.specs.declared.outermost.place.Place.{Place, TheVariants.{Returned, Argument}}
use Rattle.do_sig.specs.declared.qualifiers.Qualifiers.{Qualifiers}
use Rattle.do_sig.specs.{declared.value_type.OutermostType.OutermostType, Places.MayStand}

-- a type with its qualifiers
pub record QualifiedType : Type 0 where
  pub qualifiers : Qualifiers
  pub value_type : OutermostType

-- a result and arguments
pub record MethodType : Type 0 where
  pub returned : QualifiedType
  pub args : List QualifiedType

-- the encoding may stand at a place
abbrev pub IsEncodingOf : Place → QualifiedType → Type 0
IsEncodingOf place e = MayStand place e.qualifiers.oneway e.value_type

-- What every signature keeps to: a result that is no ^, arguments that are no v and have no V
-- before them, and at most eight of them.
pub record IsMethodType (m : MethodType) : Type 0 where
  pub returned : IsEncodingOf Returned m.returned
  pub args : AllByRecursion (IsEncodingOf Argument) m.args
  pub few : length m.args ≤ 8
