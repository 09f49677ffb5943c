-- What holds along the events of a schedule holds along its lines.
use Rattle.std.proofs.Common.{◌<◌, ◌++◌, List, [], ◌∷◌, length, arith}
use Rattle.std.specs.{Prelude.◌^◌, List.{AllByRecursion, flat_map}}
use Rattle.do_base.specs.declared.events.event.Event.{Event}
use Rattle.do_class.specs.Class.{Class}
use Rattle.do_machine.specs.{declared.state.Seat.Seat, World.IsWorld, check.Blocks.events_of}
use Rattle.do_machine.specs.run.Run.{Acting}
use Rattle.do_sched.specs.{Good.IsLine, declared.line.Line.Line}
use Rattle.do_network.specs.{Net.{Net, net_opening}, Step.{NetStepped, net_skipped, net_step}}
use Rattle.do_network.specs.Wired.{net_followed, net_line_step, net_steps}
use Rattle.do_limits.{specs.SendableActs.KeepsSendable, proofs.values.Starting.lines_start}
use Rattle.do_agreement.specs.Along.{EventsSendSpelled, LinesSendSpelled}
use Rattle.do_within.proofs.schedules.Walk.{from_opening}

module _ (table : List Class) (act : Acting) where
  -- what is sent in the first events, and then
  two_parts : (xs ys : List Event) (s : NetStepped) →
      EventsSendSpelled table act s.net (xs ++ ys) →
      EventsSendSpelled table act s.net xs
      × EventsSendSpelled table act (net_steps table act xs s).net ys
  two_parts [] ys s h = (tt, h)
  two_parts (x ∷ xs) ys s h =
      let rest = two_parts xs ys (net_followed s (net_step table act s.net x)) h.1 in
      ((h.0, rest.0), rest.1)

  -- in lines
  lines_spelled : (lines : List Line) (N : Net) →
      EventsSendSpelled table act N (flat_map events_of lines) → LinesSendSpelled table act N lines
  lines_spelled [] N h = tt
  lines_spelled (line ∷ lines) N h =
      let parts = two_parts (events_of line) (flat_map events_of lines) (net_skipped N) h in
      (parts.0, lines_spelled lines (net_line_step table act N line).net parts.1)

-- each frame that is sent in the lines of a bounded schedule has a spelling
pub bounded_lines : (table : List Class) (act : Acting) (seats : List Seat) (lines : List Line) →
    IsWorld table seats → KeepsSendable table act → AllByRecursion IsLine lines →
    length (flat_map events_of lines) < 2 ^ 46 →
    LinesSendSpelled table act (net_opening table seats) lines
bounded_lines table act seats lines world acts good few =
    lines_spelled table act lines (net_opening table seats)
    (from_opening table act seats world acts (flat_map events_of lines) (lines_start lines good)
    (omega (arith, few))).0
