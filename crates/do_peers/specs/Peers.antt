-- What an input from one peer leaves of every other, and what may change at all where the end
-- towards a peer closes.
use Rattle.do_network.specs.declared.input.Input.TheVariants as inputs
use Rattle.std.specs.Prelude.{List, None, Option, Some, filter, not, true, ℕ, ◌&&◌, ◌==◌, ◌≡◌, ◌⊎◌}
use Rattle.std.specs.List.{AllByRecursion}
use Rattle.do_base.specs.names.Names.{ObjectName}
use Rattle.do_export.specs.Counts.{count_of}
use Rattle.do_frames.specs.declared.frame.Frame.TheVariants.{Release, Settle}
use Rattle.do_machine.specs.{State.{holds, is_known, is_open}, declared.node.{Lend.Lend, Node.Node}}
use Rattle.do_machine.specs.{ends.Closing.parted, held.{Kept.AreAmong, Refers.node_objects}}
use Rattle.do_packet.specs.Met.{has_object}
use Rattle.do_network.specs.{declared.input.Input.Input, Links.{Piece, Sending}}
use Rattle.do_network.specs.{Links.Piece.{Framed, Greeting}, Own.{Own, class_kept, is_counted}}

-- the peer whose frame, close or end an input is
abbrev pub peer_of : Input → Option ℕ
peer_of (inputs.Frame from f) = Some from
peer_of (inputs.Close peer) = Some peer
peer_of (inputs.Ended peer) = Some peer
peer_of _ = None

-- what a node lends to a peer
abbrev pub lends_to : ℕ → Node → List Lend
lends_to peer n = filter (λ l. l.borrower == peer) n.lent

-- what a node keeps for a peer stays: its end, the peer's entries with their counts, and what is
-- lent to the peer; a count over a closed end is none
pub record StaysFor (peer : ℕ) (old new : Own) : Type 0 where
  pub end : is_open new.node peer ≡ is_open old.node peer
  pub entries : (serial : ℕ) → is_counted new peer serial ≡ is_counted old peer serial
  pub counts : is_open old.node peer ≡ true → (serial : ℕ) →
      count_of new.counts peer serial ≡ count_of old.counts peer serial
  pub lends : lends_to peer new.node ≡ lends_to peer old.node

-- what is written to other peers where an end closes: that a lend is over, or that an object is
-- left, behind the greeting of a stream that begins so
abbrev pub IsNotice : Piece → Type 0
IsNotice Greeting = Unit {0}
IsNotice (Framed (Settle number) spelled) = Unit {0}
IsNotice (Framed (Release serial amount) spelled) = Unit {0}
IsNotice (Framed f spelled) = ⊥

-- The end towards a peer closed, and all that changed is listed here. The node is without what it
-- had with the peer, stores what it stored before or less, and holds what it held of others and
-- still refers to. Of that it keeps the counts and classes. Others are sent such frames alone.
pub record ClosedAlone (peer : ℕ) (old new : Own) (written : List Sending) : Type 0 where
  pub node : new.node
      ≡ record (parted peer old.node) { heap = new.node.heap; held = new.node.held }
  pub heap : AreAmong new.node.heap old.node.heap
  pub held : (o : ObjectName) → holds new.node o
      ≡ (has_object (node_objects new.node) o && (not (o.node == peer) && holds old.node o))
  pub received : (o : ObjectName) → holds new.node o ≡ true →
      count_of new.received o.node o.serial ≡ count_of old.received o.node o.serial
  pub classes : (o : ObjectName) → is_known new.node o ≡ true →
      class_kept new o ≡ class_kept old o
  pub sent : AllByRecursion (λ x. ((x.to == peer) ≡ true) ⊎ IsNotice x.piece) written
