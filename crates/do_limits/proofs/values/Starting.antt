-- The values of starts that may stand in a schedule can be carried.
use Rattle.do_base.specs.declared.events.event.Event.TheVariants as events
use Rattle.std.proofs.Common.{◌≡◌, ◌<◌, ◌^◌, ℕ, ℤ, zero, suc, List as Listed, [], ◌∷◌, length}
use Rattle.std.{proofs.Common.{subst, sym, ◌∙◌, arith}, specs.Prelude.{nat_le, negsuc, pos}}
use Rattle.std.specs.{Prelude.{replicate, true}, Int.Signed.mag, List.{AllByRecursion, flat_map}}
use Rattle.std.proofs.lemmas.Bool.{and_from, le-leb, lt-ltb}
use Rattle.do_base.specs.{declared.values.value.Value.Value, values.Texts.longest_text}
use Rattle.do_behave.specs.Numbers.{is_i64}
use Rattle.do_coder.{specs.Parts.is_bytes, proofs.values.PartFacts.bytes_all}
use Rattle.do_machine.specs.check.Blocks.{events_of}
use Rattle.do_sched.specs.{Good.{IsLine, IsPlain, nil, number, text}, declared.line.Line.Line}
use Rattle.do_sched.specs.declared.line.Line.TheVariants.{Run, Start}
use Rattle.do_facts.proofs.EachOfLists.{each_joined}
use Rattle.do_limits.specs.{Sendable.{AreSendable, IsSendable}, SendableActs.AllStartSendable}
use Rattle.do_limits.{specs.SendableActs.StartsSendable, proofs.scripts.MadeNumbers.i64_sendable}
use Rattle.do_limits.proofs.values.Carried.{carry-Nil, carry-Text}

-- a number of 64 bits by its size
sized : (z : ℤ) → mag z < 2 ^ 63 → is_i64 z ≡ true
sized (pos n) small = lt-ltb n (2 ^ 63) small
sized (negsuc n) small = lt-ltb n (2 ^ 63) (omega (arith, small))

-- a plain value can be carried
plain_sendable : (v : Value) → IsPlain longest_text v → IsSendable v
plain_sendable v (nil is) = subst IsSendable (sym is) (carry-Nil 8)
plain_sendable v (number z is small) =
    subst IsSendable (sym is) (i64_sendable z (sized z small))
plain_sendable v (text t is few small) =
    subst IsSendable (sym is) (carry-Text 8 t
    ∙ and_from (nat_le (length t) longest_text) (is_bytes t) (le-leb (length t) longest_text few)
    (bytes_all t small))

-- so can plain values
all_plain : (vs : Listed Value) → AllByRecursion (IsPlain longest_text) vs → AreSendable vs
all_plain [] h = tt
all_plain (v ∷ vs) h = (plain_sendable v h.0, all_plain vs h.1)

-- runs give no values
runs_start : (count port : ℕ) → AllStartSendable (replicate count (events.Run port))
runs_start zero port = tt
runs_start (suc count) port = (tt, runs_start count port)

-- the events of a line give such values
line_starts : (line : Line) → IsLine line → AllStartSendable (events_of line)
line_starts (Start port selector values) h = (all_plain values h.plain, tt)
line_starts (Run port count) h = runs_start count port
line_starts _ h = (tt, tt)

-- and so do those of lines
pub lines_start : (lines : Listed Line) → AllByRecursion IsLine lines
    → AllStartSendable (flat_map events_of lines)
lines_start [] h = tt
lines_start (line ∷ lines) h =
    each_joined StartsSendable (events_of line) (flat_map events_of lines) (line_starts line h.0)
    (lines_start lines h.1)
