-- What one event does to a network of sites.
use Rattle.do_base.specs.declared.events.event.Event.TheVariants as events
use Rattle.do_network.specs.declared.input.Input.TheVariants as inputs
use Rattle.std.specs.Prelude.{Bool, List, None, Option, Some, [], drop, false, fold, length, map}
use Rattle.std.specs.Prelude.{nat_lt, not, option_map, slice_get, true, unwrap_or, ℕ, ◌&&◌, ◌++◌}
use Rattle.std.specs.{Prelude.{◌||◌, ◌∷◌}, List.insert}
use Rattle.do_base.specs.declared.events.event.Event.{Event}
use Rattle.do_class.specs.Class.{Class}
use Rattle.do_machine.specs.{Chain.{when◌then◌, ◌>>=◌, ◌>>◌, ◌otherwise◌}, State.is_open}
use Rattle.do_machine.specs.{run.Run.Acting, take.Take.can_take}
use Rattle.do_trace.specs.declared.outcome.Outcome.{Outcome}
use Rattle.do_network.specs.declared.{input.Input.Input, wire.Wire.Wire}
use Rattle.do_network.specs.{Links.{Piece, Sending, Greeting, Framed, piece_bytes}, Net.Carried}
use Rattle.do_network.specs.Net.{Channel, Lost, Net, Place, Whole, change_channel, change_place}
use Rattle.do_network.specs.{Net.{channel, part_at, with_channel}, Site.{Handled, enabled_input}}

-- a network after an event, what the event came to, and what was sent in it
pub record NetStepped : Type 0 where
  pub net : Net
  pub outcome : Outcome
  pub wires : List Wire

-- what stands in a channel behind what is sent over it
abbrev pub carrying : Piece → Channel → Channel
carrying Greeting c = record c { greeting = true }
carrying (Framed f spelled) c = record c { waiting = c.waiting ++ Whole spelled ∷ [] }

-- the channels of a site with what it sent
abbrev pub with_sending : List Channel → Sending → List Channel
with_sending cs s = change_channel s.to (carrying s.piece) cs

-- what a node sent, as its bytes
abbrev pub wire_of : ℕ → Sending → Wire
wire_of port s = record { from = port; to = s.to; bytes = piece_bytes s.piece }

-- the place of a site after an input
abbrev pub place_after : Handled → Place → Place
place_after h x =
    record x { part = h.part; channels = fold with_sending x.channels h.sent }

-- the network after a site was handed an input
abbrev pub net_moved : ℕ → Net → Handled → NetStepped
net_moved port N h = record {
  net = change_place port (place_after h) N;
  outcome = record { enabled = true; shown = h.shown };
  wires = map (wire_of port) h.sent;
}

-- a network that no event changed
abbrev pub net_skipped : Net → NetStepped
net_skipped N =
    record { net = N; outcome = record { enabled = false; shown = [] }; wires = [] }

-- the network after an event that steps no node
abbrev pub net_stays : Net → NetStepped
net_stays N =
    record { net = N; outcome = record { enabled = true; shown = [] }; wires = [] }

-- the site of a port is handed an input
abbrev pub hands : List Class → Acting → Net → ℕ → Input → Option NetStepped
hands table act N port input = do
  p ← part_at N port otherwise None
  option_map (net_moved port N) (enabled_input table act p input)

-- what a node is handed of what stands in a channel; the mark of a loss is the connection's end
abbrev pub input_of : ℕ → Carried → Input
input_of from (Whole f) = inputs.Frame from f
input_of from Lost = inputs.Ended from

-- what stands in a channel is a frame
abbrev pub is_whole : Carried → Bool
is_whole (Whole f) = true
is_whole Lost = false

-- the channel without the oldest; the greeting goes with the first frame
abbrev pub advanced : Carried → Channel → Channel
advanced x c = record c {
  waiting = drop 1 c.waiting;
  greeting = c.greeting && not (is_whole x);
  begun = c.begun || is_whole x;
}

-- a node takes the oldest of what stands in the channel from another
abbrev pub net_take : List Class → Acting → Net → ℕ → ℕ → Option NetStepped
net_take table act N port from = do
  p ← part_at N port otherwise None
  when not (can_take from p.own.node) then None
  c ← channel N from port otherwise None
  x ← slice_get c.waiting 0 otherwise None
  let M = change_place from (with_channel port (advanced x)) N
  hands table act M port (input_of from x)

-- the channel with the mark of a loss behind so many
abbrev pub with_loss : ℕ → Channel → Channel
with_loss after c = record c { waiting = insert c.waiting after Lost }

-- what one node sent to another is lost behind so many, where the reader's end is open
abbrev pub net_lose : Net → ℕ → ℕ → ℕ → Option NetStepped
net_lose N from to after = do
  p ← part_at N to otherwise None
  when not (is_open p.own.node from) then None
  c ← channel N from to otherwise None
  when nat_lt (length c.waiting) after then None
  Some (net_stays (change_place from (with_channel to (with_loss after)) N))

-- what an event does, where it is enabled
abbrev pub enabled_net_step : List Class → Acting → Net → Event → Option NetStepped
enabled_net_step table act N (events.Start port selector values) =
    hands table act N port (inputs.Start selector values)
enabled_net_step table act N (events.Run port) = hands table act N port inputs.Run
enabled_net_step table act N (events.Take port from) = net_take table act N port from
enabled_net_step table act N (events.Close port peer) =
    hands table act N port (inputs.Close peer)
enabled_net_step table act N (events.Lose from to after) = net_lose N from to after
enabled_net_step table act N (events.Timeout port) = hands table act N port inputs.Timeout
enabled_net_step table act N events.Check = Some (net_stays N)

-- one event; one that is not enabled changes nothing
abbrev pub net_step : List Class → Acting → Net → Event → NetStepped
net_step table act N event =
    unwrap_or (enabled_net_step table act N event) (net_skipped N)
