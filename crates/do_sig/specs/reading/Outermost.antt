-- How an outermost type is read, with its qualifiers.
use Rattle.std.specs.Prelude.{ℕ, ◌==◌, ◌&&◌, ◌||◌, Bool, if◌then◌else◌}
use Rattle.do_grammar.specs.Reader.{Reader, Whole, done, and_then, mapped, byte_of, scan_to}
use Rattle.do_grammar.specs.Reader.{then_whole}
use Rattle.do_sig.specs.declared.fault.Kind.{Kind, TheVariants.BadChar}
use Rattle.do_sig.specs.declared.outermost.place.Place.{Place, TheVariants.Alone}
use Rattle.do_sig.specs.declared.qualifiers.Qualifiers.{Qualifiers}
use Rattle.do_sig.specs.declared.value_type.OutermostType.{OutermostType}
use Rattle.do_sig.specs.declared.value_type.OutermostType.TheVariants.{Void, Pointer, Plain}
use Rattle.do_sig.specs.{Bare.bare, Blame.{begins_type, why_no_type}, Marks.qualifier_step}
use Rattle.do_sig.specs.{MethodTypes.QualifiedType, Places.{may_return, may_point}}
use Rattle.do_sig.specs.reading.{Offsets.{after_offset, nothing_left}, Types.{body_at, type_at}}

-- a byte begins an outermost type: behind V it must be v
abbrev pub begins_outermost : Place → Bool → ℕ → Bool
begins_outermost place oneway b =
    if oneway then b == 118 else (begins_type 8 b ||
    ((may_return place && b == 118) || (may_point place && b == 94)))

-- what stands behind the first byte
abbrev pub outermost_body_at : ℕ → Reader Kind OutermostType
outermost_body_at b =
    if b == 118 then done Void else
    (if b == 94 then mapped Pointer (type_at 7) else mapped Plain (body_at (type_at 7) b))

-- a type, with V before it or not
unfoldable pub outermost_at : Place → Bool → Reader Kind OutermostType
outermost_at place oneway =
    and_then (byte_of (begins_outermost place oneway) (why_no_type 8)) outermost_body_at

-- a type behind these qualifiers
abbrev pub qualified_at : Place → Qualifiers → Reader Kind QualifiedType
qualified_at place q = mapped (λ t. record { qualifiers = q; value_type = t })
    (outermost_at place q.oneway)

-- the qualifiers that begin the bytes
abbrev pub marks_at : Place → Reader Kind Qualifiers
marks_at place = scan_to (qualifier_step place) bare

-- qualifiers and a type
unfoldable pub encoding_at : Place → Reader Kind QualifiedType
encoding_at place = and_then (scan_to (qualifier_step place) bare) (qualified_at place)

-- ---- an encoding by itself

-- an encoding, and nothing but an offset behind it
unfoldable pub alone_at : Whole Kind QualifiedType
alone_at = then_whole (encoding_at Alone) (λ e. after_offset (nothing_left (λ b. BadChar) e))
