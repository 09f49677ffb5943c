-- How often the nodes of a network have received objects.
use Rattle.std.specs.Prelude.{List, Some, ℕ, ◌*◌, ◌≡◌, ◌≤◌}
use Rattle.do_base.specs.declared.events.event.Event.{Event}
use Rattle.do_class.specs.Class.{Class}
use Rattle.do_export.specs.Counts.{Counts, count_of}
use Rattle.do_packet.specs.Limits.{most_names}
use Rattle.do_machine.specs.{declared.state.Seat.Seat, run.Run.Acting}
use Rattle.do_network.specs.{Links.Part, Net.{Net, net_opening, part_at}, Step.net_skipped}
use Rattle.do_network.specs.Wired.{net_steps}

-- no object is counted more often than a message has names, for each of so many events
abbrev pub CountsWithin : ℕ → Counts → Type 0
CountsWithin events received =
    (home serial : ℕ) → count_of received home serial ≤ most_names * events

-- after so many events no node has received an object more often
abbrev pub ReceivedWithin : ℕ → Net → Type 0
ReceivedWithin events N =
    (port : ℕ) (p : Part) → part_at N port ≡ Some p → CountsWithin events p.own.received

-- the network to which events lead from the opening
abbrev pub net_reached : List Class → Acting → List Seat → List Event → Net
net_reached table act seats events =
    (net_steps table act events (net_skipped (net_opening table seats))).net
