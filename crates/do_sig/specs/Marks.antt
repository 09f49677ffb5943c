-- The qualifiers that stand before an outermost type, in any order.
use Rattle.do_sig.specs.declared.qualifiers.Direction.TheVariants as ways
use Rattle.do_sig.specs.declared.qualifiers.Passing.TheVariants as passings
use Rattle.std.specs.Prelude.{ℕ, ◌==◌, ◌&&◌, not, true, Option, Some, None, if◌then◌else◌}
use Rattle.do_grammar.specs.Reader.{Step, goes, leaves, fails}
use Rattle.do_sig.specs.declared.fault.Kind.{Kind, TheVariants.BadChar}
use Rattle.do_sig.specs.declared.{outermost.place.Place.Place, qualifiers.Qualifiers.Qualifiers}
use Rattle.do_sig.specs.declared.qualifiers.{Direction.Direction, Passing.Passing}
use Rattle.do_sig.specs.{Letters.is_qualifier, Places.may_return}

-- at most one of n, N and o
abbrev pub free_way : Direction → Qualifiers → Option Qualifiers
free_way ways.Unmarked q = Some q
free_way _ q = None

-- at most one of O and R
abbrev pub free_passing : Passing → Qualifiers → Option Qualifiers
free_passing passings.Unmarked q = Some q
free_passing _ q = None

-- the qualifiers with one letter more, if it may stand there
abbrev pub marked : Place → Qualifiers → ℕ → Option Qualifiers
marked place q b =
    if b == 86 then (if may_return place && not q.oneway then Some (record q { oneway = true }) else
    None) else
    (if b == 114 then (if q.constant then None else Some (record q { constant = true })) else
    (if b == 110 then free_way q.direction (record q { direction = ways.In }) else
    (if b == 78 then free_way q.direction (record q { direction = ways.InOut }) else
    (if b == 111 then free_way q.direction (record q { direction = ways.Out }) else
    (if b == 79 then free_passing q.passing (record q { passing = passings.ByCopy }) else
    free_passing q.passing (record q { passing = passings.ByRef }))))))

-- a letter that may not stand there goes on with nothing
abbrev pub goes_or_fails : Option Qualifiers → Step Qualifiers Kind
goes_or_fails None = fails BadChar
goes_or_fails (Some q) = goes q

-- the qualifiers go on with their letters, up to the type
abbrev pub qualifier_step : Place → Qualifiers → ℕ → Step Qualifiers Kind
qualifier_step place q b = if is_qualifier b then goes_or_fails (marked place q b) else leaves
