-- Which text spells which encoding.
use Rattle.std.specs.Prelude.{◌≡◌, ℕ, List}
use Rattle.do_grammar.specs.Forms.{Then, Scans, Accepts}
use Rattle.do_sig.specs.declared.{fault.Kind.TheVariants.BadChar, outermost.place.Place.Place}
use Rattle.do_sig.specs.declared.outermost.place.Place.TheVariants.{Alone}
use Rattle.do_sig.specs.{declared.qualifiers.Qualifiers.Qualifiers, Bare.bare, Marks.qualifier_step}
use Rattle.do_sig.specs.MethodTypes.{QualifiedType, IsEncodingOf}
use Rattle.do_sig.specs.{Offsets.{fresh, offset_ends, last_step}, Spelling.outermost_spelling}

-- the text is a type that may stand at a place, behind these qualifiers
pub record IsQualified (place : Place) (q : Qualifiers) (text : List ℕ) (e : QualifiedType) : Type 0
  where
    pub marked : q ≡ e.qualifiers
    pub spelled : text ≡ outermost_spelling e.value_type
    pub stands : IsEncodingOf place e

-- qualifiers in any order, and a type
abbrev pub IsEncodingAt : Place → List ℕ → QualifiedType → Type 0
IsEncodingAt place = Scans (qualifier_step place) (IsQualified place) bare

-- an encoding by itself, behind which a size or offset may stand
abbrev pub IsEncoding : List ℕ → QualifiedType → Type 0
IsEncoding =
    Then (IsEncodingAt Alone) (λ e. Accepts (last_step (λ b. BadChar)) (offset_ends e) fresh)
