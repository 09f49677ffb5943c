-- When the counts of the sites of a network, their links, and the channels between them fit.
use Rattle.std.specs.FinMap as map_of
use Rattle.std.specs.Prelude.{Bool, List, Some, [], false, is_some, map, nat_lt, true, ℕ, ◌==◌, ◌≡◌}
use Rattle.std.specs.List.{AllByRecursion}
use Rattle.do_base.specs.names.Names.{ObjectName}
use Rattle.do_class.specs.Class.{Class}
use Rattle.do_export.specs.Counts.{count_of}
use Rattle.do_import.specs.ByObject.{object_of}
use Rattle.do_machine.specs.{declared.item.Item.TheVariants.End, State.{holds, is_open}}
use Rattle.do_machine.specs.World.{others}
use Rattle.do_facts.specs.laws.Follows.{HoldsOpen}
use Rattle.do_network.specs.Links.{Link, Part, link_to}
use Rattle.do_network.specs.{Net.{Channel, Net, channel, net_ports, part_at}, Own.Own}
use Rattle.do_network.specs.fits.{Channels.Carries, Counted.Counted, Notes.{Note, tells_of, total}}

-- A node holds what it received, over open ends
pub record HoldsReceived (port : ℕ) (p : Own) : Type 0 where
  pub port_is : p.node.port ≡ port
  pub apart : is_open p.node port ≡ false
  pub reached : HoldsOpen p.node
  pub held : map object_of (map_of.keys p.received) ≡ p.node.held
  pub received : (o : ObjectName) →
      nat_lt 0 (count_of p.received o.node o.serial) ≡ holds p.node o

-- The mark of a loss stands for an end that names nothing, and no frame goes before the greeting
pub record MarksFit (w : Link) (c : Channel) (xs : List Note) : Type 0 where
  pub lost : AllByRecursion (λ x. x.lost ≡ true → x.item ≡ End []) xs
  pub unbegun : w.greeted ≡ false → (c.begun ≡ false) × AllByRecursion (λ x. x.lost ≡ true) xs

-- A channel from one node to another carries what is under way, by the links at its ends; the names
-- before it are those that the reader read last, also where the reader's end has closed since
pub record ChannelCarries (table : List Class) (N : Net) (from to : ℕ) (p q : Part)
    (xs : List Note) : Type 0 where
  pub between : Channel
  pub stands : channel N from to ≡ Some between
  pub writer : Link
  pub writes : link_to p.links to ≡ Some writer
  pub reader : Link
  pub reads : link_to q.links from ≡ Some reader
  pub carries : Carries table from to true writer reader between xs
  pub marks : MarksFit writer between xs

-- The counts of all sites fit to what is under way. Of a node that is closing its end towards a
-- peer it is not said what it counts for the peer.
pub record CountsFit (table : List Class) (N : Net) (under_way : ℕ → ℕ → List Note)
    (closes : ℕ → ℕ → Bool) : Type 0
  where
    pub owns : (port : ℕ) (p : Part) → part_at N port ≡ Some p → HoldsReceived port p.own
    pub counted : (a m : ℕ) (p q : Part) → part_at N a ≡ Some p → part_at N m ≡ Some q →
        (a == m) ≡ false → closes a m ≡ false →
        Counted p.own q.own (under_way a m) (under_way m a)
    -- over an open end no end is on its way that tells of an object
    pub silent : (a m : ℕ) (p : Part) → part_at N a ≡ Some p → is_open p.own.node m ≡ true →
        (serial : ℕ) → total (tells_of serial) (under_way a m) ≡ 0
    pub channels : (a m : ℕ) (p q : Part) → part_at N a ≡ Some p → part_at N m ≡ Some q →
        (a == m) ≡ false → ChannelCarries table N a m p q (under_way a m)
    -- a site has a link to each other
    pub links : (port : ℕ) (p : Part) → part_at N port ≡ Some p →
        map (λ l. l.peer) p.links ≡ others (net_ports N) port
    -- an open end leads to a node
    pub peers : (port peer : ℕ) (p : Part) → part_at N port ≡ Some p →
        is_open p.own.node peer ≡ true → is_some (part_at N peer) ≡ true

-- no node is closing an end
abbrev pub none_closes : ℕ → ℕ → Bool
none_closes a m = false
