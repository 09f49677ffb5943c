-- Starts that may stand in a schedule give no objects.
use Rattle.do_base.specs.declared.events.event.Event.TheVariants as events
use Rattle.std.proofs.Common.{◌≡◌, ℕ, zero, suc, List as Listed, [], ◌∷◌, sym, subst}
use Rattle.std.specs.{Prelude.replicate, List.{AllByRecursion, flat_map}}
use Rattle.do_base.specs.{values.Values.objects_of, declared.values.value.Value.Value}
use Rattle.do_machine.specs.check.Blocks.{events_of}
use Rattle.do_sched.specs.{Good.{IsLine, IsPlain, nil, number, text}, declared.line.Line.Line}
use Rattle.do_sched.specs.declared.line.Line.TheVariants.{Start, Run}
use Rattle.do_facts.proofs.EachOfLists.{each_joined}
use Rattle.do_at_hand.{specs.AtHand.StartsPlain, proofs.Shown.{none_in, number_in, text_in}}

-- there are no objects in a value
abbrev HasNone : Value → Type 0
HasNone v = objects_of v ≡ []

-- a plain value has none
plain_none : (limit : ℕ) (v : Value) → IsPlain limit v → HasNone v
plain_none limit v (nil is) = subst HasNone (sym is) none_in
plain_none limit v (number z is small) = subst HasNone (sym is) (number_in z)
plain_none limit v (text t is few small) = subst HasNone (sym is) (text_in t)

-- nor have plain values
all_plain : (limit : ℕ) (vs : Listed Value) → AllByRecursion (IsPlain limit) vs →
    AllByRecursion HasNone vs
all_plain limit [] h = tt
all_plain limit (v ∷ vs) h = (plain_none limit v h.0, all_plain limit vs h.1)

-- runs give no values
runs_plain : (count port : ℕ) → AllByRecursion StartsPlain (replicate count (events.Run port))
runs_plain zero port = tt
runs_plain (suc count) port = (tt, runs_plain count port)

-- the events of a line give none
line_plain : (line : Line) → IsLine line → AllByRecursion StartsPlain (events_of line)
line_plain (Start port selector values) h = (all_plain _ values h.plain, tt)
line_plain (Run port count) h = runs_plain count port
line_plain _ h = (tt, tt)

-- nor do those of lines
pub lines_plain : (lines : Listed Line) → AllByRecursion IsLine lines →
    AllByRecursion StartsPlain (flat_map events_of lines)
lines_plain [] h = tt
lines_plain (line ∷ lines) h =
    each_joined StartsPlain (events_of line) (flat_map events_of lines) (line_plain line h.0)
    (lines_plain lines h.1)
