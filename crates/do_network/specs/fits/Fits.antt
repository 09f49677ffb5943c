-- When a network of sites stands for a state of the machine.
use Rattle.std.specs.FinMap as map_of
use Rattle.std.specs.Prelude.{List, Some, false, is_some, map, nat_lt, option_map, true, ℕ, ◌==◌}
use Rattle.std.specs.Prelude.{◌≡◌}
use Rattle.do_base.specs.names.Names.{ObjectName, TokenName}
use Rattle.do_class.specs.Class.{Class}
use Rattle.do_export.specs.Counts.{count_of}
use Rattle.do_import.specs.ByObject.{object_of}
use Rattle.do_machine.specs.{declared.state.State.State, Context.around}
use Rattle.do_machine.specs.State.{holds, is_open, node, ports, queue}
use Rattle.do_network.specs.Links.{Link, Part, link_to}
use Rattle.do_network.specs.{Net.{Channel, Net, channel, net_ports, part_at}, Own.{Own, class_kept}}
use Rattle.do_network.specs.fits.{Calls.OneCall, Channels.Carries, Counted.Counted}
use Rattle.do_network.specs.fits.{Lends.{OneAsk, OneLend}, Notes.Note}

-- A site's own state is that of the machine's node: it holds what it received, and its classes are
-- those of the machine for what it holds or asked for
pub record OwnFits (S : State) (port : ℕ) (p : Own) : Type 0 where
  pub port_is : p.node.port ≡ port
  pub apart : is_open p.node port ≡ false
  pub held : map object_of (map_of.keys p.received) ≡ p.node.held
  pub received : (o : ObjectName) →
      nat_lt 0 (count_of p.received o.node o.serial) ≡ holds p.node o
  pub classes : (o : ObjectName) → class_kept p o ≡ (around S p.node).class_of o

-- What one node has for a peer stands to what the peer has for it and to what is under way
pub record PairFits (p q : Own) (there back : List Note) : Type 0 where
  pub counted : Counted p q there back
  pub lends : (o : ObjectName) (number : ℕ) → OneLend p.node q.node there back o number
  pub asks : (serial : ℕ) (token : TokenName) → OneAsk p.node q.node there back serial token
  pub calls : (number : ℕ) → OneCall p.node q.node there back number

-- The channel from one node to another, with the links at its ends
pub record ChannelFits (table : List Class) (N : Net) (from to : ℕ) (p q : Part)
    (xs : List Note) : Type 0 where
  pub between : Channel
  pub stands : channel N from to ≡ Some between
  pub writer : Link
  pub writes : link_to p.links to ≡ Some writer
  pub reader : Link
  pub reads : link_to q.links from ≡ Some reader
  pub carries : Carries table from to (is_open q.own.node from) writer reader between xs

-- A network stands for a state: node for node and queue for queue, and the counts are right
pub record Fits (table : List Class) (N : Net) (S : State) : Type 0 where
  -- what is under way from one node to another
  pub under_way : ℕ → ℕ → List Note
  pub ports : net_ports N ≡ ports S
  pub nodes : (port : ℕ) → option_map (λ p. p.own.node) (part_at N port) ≡ node S port
  pub queues : (from to : ℕ) → option_map (λ c. map (λ x. x.item) (under_way from to))
      (channel N from to) ≡ queue S from to
  pub owns : (port : ℕ) (p : Part) → part_at N port ≡ Some p → OwnFits S port p.own
  pub pairs : (a m : ℕ) (p q : Part) → part_at N a ≡ Some p → part_at N m ≡ Some q →
      (a == m) ≡ false → PairFits p.own q.own (under_way a m) (under_way m a)
  pub channels : (a m : ℕ) (p q : Part) → part_at N a ≡ Some p → part_at N m ≡ Some q →
      (a == m) ≡ false → ChannelFits table N a m p q (under_way a m)
  -- an open end leads to a node
  pub peers : (port peer : ℕ) (p : Part) → part_at N port ≡ Some p →
      is_open p.own.node peer ≡ true → is_some (part_at N peer) ≡ true
