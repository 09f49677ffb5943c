-- A record may show what a frame that has a spelling brings.
use Rattle.do_frames.specs.declared.frame.Frame.TheVariants as frames
use Rattle.do_machine.specs.declared.item.Item.TheVariants as items
use Rattle.std.{proofs.Common.{List, subst, true, ℕ, ◌≡◌}, specs.Prelude.Some}
use Rattle.do_class.specs.{Class.Class, declared.packet.Packet.Packet}
use Rattle.do_sched.specs.Good.{IsPort}
use Rattle.do_record.specs.GoodShown.{IsTook}
use Rattle.do_coder.specs.Packets.{surroundings}
use Rattle.do_frames.specs.{Frames.IsFrame, declared.frame.Frame.Frame}
use Rattle.do_machine.specs.{Objects.object_at, declared.item.Item.Item, take.Lines.item_line}
use Rattle.do_facts.proofs.walk.Takes.{packet_in}
use Rattle.do_network.specs.Frames.{item_of}
use Rattle.do_limits.specs.SendableStates.{ItemIsReadable}
use Rattle.do_showable.proofs.Naming.{exception_stands, is_nameable, named_at, object_stands}
use Rattle.do_showable.proofs.Packets.{PacketPasses, packet_passes}

-- a record may name the objects of an item from one port to another
abbrev pub ItemPasses : ℕ → ℕ → Item → Type 0
ItemPasses from to (items.Call number m) =
    (is_nameable (object_at to m.target) ≡ true) × PacketPasses from to m.packet
ItemPasses from to (items.Oneway m) =
    (is_nameable (object_at to m.target) ≡ true) × PacketPasses from to m.packet
ItemPasses from to (items.Reply number packet) = PacketPasses from to packet
ItemPasses from to (items.RootAnswer number packet) = PacketPasses from to packet
ItemPasses from to (items.Ask serial token) = is_nameable (object_at to serial) ≡ true
ItemPasses from to (items.Granted serial token) = is_nameable (object_at from serial) ≡ true
ItemPasses from to (items.Gone serial token) = is_nameable (object_at from serial) ≡ true
ItemPasses from to (items.Left serial) = is_nameable (object_at to serial) ≡ true
ItemPasses from to _ = Unit {0}

-- so it is with its message
pub message_passes : (from to : ℕ) (item : Item) → ItemPasses from to item → (packet : Packet) →
    packet_in item ≡ Some packet → PacketPasses from to packet
message_passes from to (items.Call number m) h packet is =
    let same : m.packet ≡ packet = cc (is) in subst (PacketPasses from to) same h.1
message_passes from to (items.Oneway m) h packet is =
    let same : m.packet ≡ packet = cc (is) in subst (PacketPasses from to) same h.1
message_passes from to (items.Reply number p) h packet is =
    let same : p ≡ packet = cc (is) in subst (PacketPasses from to) same h
message_passes from to (items.RootAnswer number p) h packet is =
    let same : p ≡ packet = cc (is) in subst (PacketPasses from to) same h
message_passes from to _ h packet is = absurd (cc (is))

module _ (table : List Class) (from to : ℕ) (at_from : IsPort from) (at_to : IsPort to) where
  -- a record may name the objects of such a frame
  pub frame_passes : (f : Frame) → IsFrame (surroundings table from to) f →
      ItemPasses from to (item_of f)
  frame_passes (frames.Call number serial selector packet) h =
      (named_at to serial at_to h.1.0, packet_passes table from to at_from at_to packet h.1.1.1)
  frame_passes (frames.Oneway serial selector packet) h =
      (named_at to serial at_to h.0, packet_passes table from to at_from at_to packet h.1.1)
  frame_passes (frames.Reply number packet) h =
      packet_passes table from to at_from at_to packet h.1
  frame_passes (frames.Raised number e) h = tt
  frame_passes (frames.RootAsk number) h = tt
  frame_passes (frames.RootAnswer number packet) h =
      packet_passes table from to at_from at_to packet h.1
  frame_passes (frames.Retain serial token) h = named_at to serial at_to h.0
  frame_passes (frames.Granted serial token) h = named_at from serial at_from h.0
  frame_passes (frames.Gone serial token) h = named_at from serial at_from h.0
  frame_passes (frames.Release serial amount) h = named_at to serial at_to h.0
  frame_passes (frames.Settle number) h = tt
  frame_passes frames.Shutdown h = tt

  -- an item that is taken may stand in a record
  pub took_stands : (item : Item) → ItemIsReadable table from to item → ItemPasses from to item →
      IsTook (item_line from to item)
  took_stands (items.Call number m) h k = h.selector
  took_stands (items.Oneway m) h k = h.selector
  took_stands (items.Reply number packet) h k = tt
  took_stands (items.Raised number e) h k = exception_stands e h
  took_stands (items.RootAsk number) h k = tt
  took_stands (items.RootAnswer number packet) h k = tt
  took_stands (items.Ask serial token) h k = object_stands (object_at to serial) k
  took_stands (items.Granted serial token) h k = object_stands (object_at from serial) k
  took_stands (items.Gone serial token) h k = object_stands (object_at from serial) k
  took_stands (items.Left serial) h k = object_stands (object_at to serial) k
  took_stands (items.Settled number) h k = tt
  took_stands (items.End serials) h k = tt
