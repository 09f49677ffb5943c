-- The one spelling that is printed.
use Rattle.do_sig.specs.declared.qualifiers.Direction.TheVariants as ways
use Rattle.do_sig.specs.declared.qualifiers.Passing.TheVariants as passings
use Rattle.std.specs.{Prelude.{ℕ, Bool, true, false, List, [], ◌∷◌, ◌++◌}, List.flat_map}
use Rattle.do_sig.specs.declared.value_type.OutermostType.{OutermostType}
use Rattle.do_sig.specs.declared.value_type.OutermostType.TheVariants.{Void, Pointer, Plain}
use Rattle.do_sig.specs.declared.qualifiers.{Qualifiers.Qualifiers, Direction.Direction}
use Rattle.do_sig.specs.declared.qualifiers.Passing.{Passing}
use Rattle.do_sig.specs.{MethodTypes.{QualifiedType, MethodType}, Types.type_spelling}

-- what an outermost type is printed as
abbrev pub outermost_spelling : OutermostType → List ℕ
outermost_spelling Void = 118 ∷ []
outermost_spelling (Pointer t) = 94 ∷ type_spelling t
outermost_spelling (Plain t) = type_spelling t

-- a letter, or nothing
abbrev pub letter_if : Bool → ℕ → List ℕ
letter_if true b = b ∷ []
letter_if false b = []

-- the letter of a direction
abbrev pub way_letters : Direction → List ℕ
way_letters ways.Unmarked = []
way_letters ways.In = 110 ∷ []
way_letters ways.InOut = 78 ∷ []
way_letters ways.Out = 111 ∷ []

-- the letter of a way of passing
abbrev pub passing_letters : Passing → List ℕ
passing_letters passings.Unmarked = []
passing_letters passings.ByCopy = 79 ∷ []
passing_letters passings.ByRef = 82 ∷ []

-- V, r, then n, N or o, then O or R
abbrev pub qualifier_letters : Qualifiers → List ℕ
qualifier_letters q =
    letter_if q.oneway 86
    ++ (letter_if q.constant 114 ++ (way_letters q.direction ++ passing_letters q.passing))

-- the qualifiers and the type
abbrev pub encoding_spelling : QualifiedType → List ℕ
encoding_spelling e = qualifier_letters e.qualifiers ++ outermost_spelling e.value_type

-- the result, @, : and the arguments
abbrev pub signature_spelling : MethodType → List ℕ
signature_spelling s = encoding_spelling s.returned ++ 64 ∷ 58 ∷ flat_map encoding_spelling s.args
