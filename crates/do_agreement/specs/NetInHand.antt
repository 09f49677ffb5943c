-- A network in which a site has an item in hand.
use Rattle.do_machine.specs.declared.item.Item.TheVariants as items
use Rattle.std.specs.Prelude.{Bool, List, false, if◌then◌else◌, true, ℕ, ◌&&◌, ◌==◌}
use Rattle.do_coder.specs.declared.recent.pair.Pair.{Pair}
use Rattle.do_frames.specs.Frames.{after_frame, raw}
use Rattle.do_machine.specs.declared.item.Item.{Item}
use Rattle.do_network.specs.Links.{Link, Part, change_link}
use Rattle.do_network.specs.Net.{Carried, Lost, Net, Place, Whole, change_place, with_channel}
use Rattle.do_network.specs.{Step.advanced, fits.Notes.{Note, note_frame}}
use Rattle.do_agreement.specs.InHand.{in_hand}

-- what stands in a channel for something under way, by the table of the names before it
abbrev pub carried_as : List Pair → Note → Carried
carried_as front x = if x.lost then Lost else Whole (raw front (note_frame x))

-- a link once what was under way was read over it
abbrev pub link_read : Note → Link → Link
link_read x l = if x.lost then l else record l { read = after_frame l.read (note_frame x) }

-- links once what was under way was read over that to a peer; the mark of a loss is not read
abbrev pub links_read : ℕ → Note → List Link → List Link
links_read from x links = if x.lost then links else change_link from (link_read x) links

-- the site with the item in hand
abbrev pub part_in_hand : ℕ → Note → Part → Part
part_in_hand from x p =
    record { own = in_hand from x p.own; links = links_read from x p.links }

-- the network without what stood first in a channel
abbrev pub net_without : ℕ → ℕ → Carried → Net → Net
net_without port from y N = change_place from (with_channel port (advanced y)) N

-- a place with another site
abbrev pub with_part : Part → Place → Place
with_part p x = record x { part = p }

-- the network in which the site of a port has the oldest of what is under way in hand
abbrev pub net_in_hand : ℕ → ℕ → List Pair → Note → Part → Net → Net
net_in_hand port from front x p N =
    change_place port (with_part (part_in_hand from x p))
    (net_without port from (carried_as front x) N)

-- what is under way without the oldest from one node to another
abbrev pub without_first : ℕ → ℕ → List Note → (ℕ → ℕ → List Note) → ℕ → ℕ → List Note
without_first port from xs under_way a m =
    if (a == from) && (m == port) then xs else under_way a m

-- an item that ends a connection
abbrev pub ends : Item → Bool
ends (items.End serials) = true
ends _ = false

-- a node that has the end of a peer in hand is closing its own
abbrev pub closes_for : ℕ → ℕ → Note → ℕ → ℕ → Bool
closes_for port from x a m = ends x.item && ((a == port) && (m == from))
