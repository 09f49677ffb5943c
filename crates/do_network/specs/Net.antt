-- A network of sites, and how it opens.
use Rattle.std.specs.FinMap as map_of
use Rattle.std.specs.Prelude.{Bool, List, Option, [], false, find, map, ℕ, option_and_then}
use Rattle.std.specs.Prelude.{option_map, ◌==◌}
use Rattle.do_class.specs.Class.{Class}
use Rattle.do_frames.specs.declared.frame.RawFrame.{RawFrame}
use Rattle.do_machine.specs.{declared.{node.Node.Node, state.Seat.Seat}, Lists.change_first}
use Rattle.do_machine.specs.World.{by_port, opening_node, others}
use Rattle.do_network.specs.{Links.{Link, Part}, Own.Own}

-- what stands in the way from one node to another
pub data Carried : Type 0 where
  -- a frame with its payload spelled
  Whole : RawFrame → Carried
  -- a mark at which the rest was lost
  Lost : Carried

-- what a node sent to a peer and the peer did not take yet, the oldest first
pub record Channel : Type 0 where
  pub to : ℕ
  pub waiting : List Carried
  -- the greeting stands before the first frame
  pub greeting : Bool
  -- a frame was taken from it
  pub begun : Bool

-- the site of a port, with its channels by rising peer
pub record Place : Type 0 where
  pub port : ℕ
  pub part : Part
  pub channels : List Channel

-- sites by rising port
pub record Net : Type 0 where
  pub places : List Place

-- the ports of the sites
abbrev pub net_ports : Net → List ℕ
net_ports N = map (λ x. x.port) N.places

-- the place of a port
abbrev pub place_at : Net → ℕ → Option Place
place_at N port = find (λ x. port == x.port) N.places

-- the site of a port
abbrev pub part_at : Net → ℕ → Option Part
part_at N port = option_map (λ x. x.part) (place_at N port)

-- the channel to a peer
abbrev pub channel_to : ℕ → Place → Option Channel
channel_to to x = find (λ c. to == c.to) x.channels

-- the channel from one node to another
abbrev pub channel : Net → ℕ → ℕ → Option Channel
channel N from to = option_and_then (channel_to to) (place_at N from)

-- the network with the place of a port changed
abbrev pub change_place : ℕ → (Place → Place) → Net → Net
change_place port f N = record { places = change_first (λ x. port == x.port) f N.places }

-- channels with the one to a peer changed
abbrev pub change_channel : ℕ → (Channel → Channel) → List Channel → List Channel
change_channel to f cs = change_first (λ c. to == c.to) f cs

-- the place with its channel to a peer changed
abbrev pub with_channel : ℕ → (Channel → Channel) → Place → Place
with_channel to f x = record x { channels = change_channel to f x.channels }

-- ---- the opening

-- a node that counts nothing yet
abbrev pub opening_own : Node → Own
opening_own n = record {
  node = n;
  counts = map_of.empty;
  received = map_of.empty;
  classes = map_of.empty;
}

-- the link to a peer before anything was sent
abbrev pub opening_link : ℕ → Link
opening_link peer = record { peer = peer; sent = []; read = []; greeted = false }

-- the channel to a peer before anything was sent
abbrev pub opening_channel : ℕ → Channel
opening_channel peer = record { to = peer; waiting = []; greeting = false; begun = false }

-- the site of a seat, in a network of these ports
abbrev pub opening_part : List Class → List ℕ → Seat → Part
opening_part table ports s = record {
  own = opening_own (opening_node table ports s);
  links = map opening_link (others ports s.node);
}

-- a site and its channels as they open
abbrev pub opening_place : List Class → List ℕ → Seat → Place
opening_place table ports s = record {
  port = s.node;
  part = opening_part table ports s;
  channels = map opening_channel (others ports s.node);
}

-- the network that opens with these seats, by rising port
abbrev pub net_opening_by : List Class → List Seat → Net
net_opening_by table seats =
    record { places = map (opening_place table (map (λ s. s.node) seats)) seats }

-- the network of a world at its opening
abbrev pub net_opening : List Class → List Seat → Net
net_opening table seats = net_opening_by table (by_port seats)
