-- A schedule that may stand in a file has few events.
use Rattle.do_base.specs.declared.events.event.Event.TheVariants as events
use Rattle.std.proofs.Common.{◌≡◌, ◌+◌, ◌≤◌, ◌<◌, ℕ, List, [], ◌∷◌, length, length-append, arith}
use Rattle.std.{proofs.Common.{refl, ◌∙◌, sym}, specs.{Prelude.◌^◌, List.AllByRecursion}}
use Rattle.std.{specs.List.flat_map, proofs.lemmas.List.{length-replicate, Sums.sum_by-cons}}
use Rattle.do_class.specs.Class.{Class}
use Rattle.do_machine.specs.{declared.state.Seat.Seat, World.IsWorld, check.Blocks.events_of}
use Rattle.do_machine.specs.run.Run.{Acting}
use Rattle.do_sched.specs.{Good.IsLine, Schedule.most_steps, Spelling.{steps, steps_of}}
use Rattle.do_sched.specs.declared.line.Line.{Line, TheVariants.{Check, Close, Lose, Run, Start}}
use Rattle.do_sched.specs.declared.line.Line.TheVariants.{Take, Timeout}
use Rattle.do_network.specs.Net.{net_opening}
use Rattle.do_limits.specs.SendableActs.{KeepsSendable}
use Rattle.do_agreement.specs.Along.{LinesSendSpelled}
use Rattle.do_within.proofs.schedules.Lines.{bounded_lines}

-- a line has an event for each of its single steps
line_events : (l : Line) → length (events_of l) ≡ steps l
line_events (Start port selector values) = refl
line_events (Run port count) = length-replicate count (events.Run port)
line_events (Take port from) = refl
line_events (Close port peer) = refl
line_events (Lose from to after) = refl
line_events (Timeout port) = refl
line_events Check = refl

-- so have all lines together
lines_events : (lines : List Line) → length (flat_map events_of lines) ≡ steps_of lines
lines_events [] = refl
lines_events (l ∷ lines) =
    length-append (events_of l) (flat_map events_of lines)
    ∙ both (line_events l) (lines_events lines) ∙ sym (sum_by-cons steps l lines)
  where
    both : {a b c d : ℕ} → a ≡ b → c ≡ d → a + c ≡ b + d
    both p q = cc

-- they are few where the single steps are
pub few_events : (lines : List Line) → steps_of lines ≤ most_steps →
    length (flat_map events_of lines) < 2 ^ 46
few_events lines few = less (length (flat_map events_of lines)) (steps_of lines)
    (lines_events lines) few
  where
    less : (n m : ℕ) → n ≡ m → m ≤ 1000000 → n < 70368744177664
    less n m e h = omega (arith, e, h)

-- so each frame that is sent in such lines has a spelling
pub schedules_spelled : (table : List Class) (act : Acting) (seats : List Seat)
    (lines : List Line) → IsWorld table seats → KeepsSendable table act →
    AllByRecursion IsLine lines → steps_of lines ≤ most_steps →
    LinesSendSpelled table act (net_opening table seats) lines
schedules_spelled table act seats lines world acts good few =
    bounded_lines table act seats lines world acts good (few_events lines few)
