-- Which fault a byte is, where nothing goes on with it.
use Rattle.std.specs.Prelude.{◌≡◌, ℕ, ◌==◌, ◌&&◌, ◌||◌, not, Bool, true, false, nat_lt}
use Rattle.std.specs.Prelude.{if◌then◌else◌}
use Rattle.do_sig.specs.declared.fault.Kind.{Kind, TheVariants.{Unsupported, Deep, NoSelf}}
use Rattle.do_sig.specs.declared.fault.Kind.TheVariants.{TooManyArgs, BadChar}
use Rattle.do_sig.specs.Letters.{is_letter, is_unsupported, is_qualifier, is_digit}

-- [ or {
abbrev pub is_bracket : ℕ → Bool
is_bracket b = b == 91 || b == 123

-- a byte begins a type, where this many more may be open
abbrev pub begins_type : ℕ → ℕ → Bool
begins_type depth b = is_letter b || (is_bracket b && nat_lt 0 depth)

-- where a type must stand: a ninth bracket, a type that only runtimes know, or any other byte
abbrev pub why_no_type : ℕ → ℕ → Kind
why_no_type depth b =
    if is_bracket b && depth == 0 then Deep else (if is_unsupported b then Unsupported else BadChar)

-- an argument could begin with a byte
abbrev pub begins_argument : ℕ → Bool
begins_argument b = begins_type 8 b || (b == 94 || (is_qualifier b && not (b == 86)))

-- where the receiver's or the selector's letter must stand: a type that only runtimes know first,
-- then what could begin an argument, then any other byte
abbrev pub why_no_self : ℕ → Kind
why_no_self b =
    if is_unsupported b then Unsupported else (if begins_argument b then NoSelf else BadChar)

-- behind the eighth argument: what could begin a ninth first, then a type that only runtimes know,
-- then any other byte
abbrev pub why_no_more : ℕ → Kind
why_no_more b =
    if begins_argument b then TooManyArgs else (if is_unsupported b then Unsupported else BadChar)

-- What each fault says of its byte. Unsupported counts before NoSelf, and both before BadChar.
abbrev pub IsBlamed : Kind → ℕ → Type 0
IsBlamed Unsupported b = (is_unsupported b || (b == 125 || is_digit b)) ≡ true
IsBlamed Deep b = is_bracket b ≡ true
IsBlamed NoSelf b = (begins_argument b ≡ true) × (is_unsupported b ≡ false)
IsBlamed TooManyArgs b = begins_argument b ≡ true
IsBlamed BadChar b = Unit {0}
