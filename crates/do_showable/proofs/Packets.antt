-- A record may name the objects of a packet that has a spelling.
use Rattle.std.proofs.Common.{List as Listed, length, true, ℕ, ◌≡◌}
use Rattle.std.specs.{List.AllByRecursion, Prelude.◌≤◌}
use Rattle.do_class.specs.{Class.Class, declared.packet.{Name.Name, Packet.Packet}}
use Rattle.do_class.specs.declared.packet.Name.TheVariants.{Lent, Mine, Yours}
use Rattle.do_sched.specs.Good.{IsPort}
use Rattle.do_coder.specs.{Names.IsName, Packets.{IsPacket, sides_of, surroundings}}
use Rattle.do_machine.specs.Objects.{object_at}
use Rattle.do_facts.proofs.EachOfLists.{each_weaker}
use Rattle.do_limits.proofs.values.Reading.{packet_read}
use Rattle.do_showable.proofs.Naming.{is_nameable, named_at}

-- a record may name the object that a message from one port to another names
abbrev pub NamePasses : ℕ → ℕ → Name → Type 0
NamePasses from to (Mine serial class) = is_nameable (object_at from serial) ≡ true
NamePasses from to (Yours serial) = is_nameable (object_at to serial) ≡ true
NamePasses from to (Lent o class token) = is_nameable o ≡ true

-- so it is with each object that a message names, and its copies are few
pub record PacketPasses (from to : ℕ) (p : Packet) : Type 0 where
  pub few : length p.copies ≤ 4096
  pub names : AllByRecursion (NamePasses from to) p.names

module _ (table : Listed Class) (from to : ℕ) (at_from : IsPort from) (at_to : IsPort to) where
  -- what has a spelling here
  abbrev Is : Name → Type 0
  Is x = IsName (sides_of (surroundings table from to)) x

  -- a record may have it
  name_passes : (x : Name) → Is x → NamePasses from to x
  name_passes (Mine serial class) h = named_at from serial at_from h.0
  name_passes (Yours serial) h = named_at to serial at_to h
  name_passes (Lent o class token) h =
      named_at o.node o.serial (h.0.at_least, h.0.at_most) h.1.0

  -- a packet
  pub packet_passes : (p : Packet) → IsPacket (surroundings table from to) p →
      PacketPasses from to p
  packet_passes p h = record {
    few = (packet_read table from to p h).limits.copies;
    names = each_weaker Is (NamePasses from to) name_passes p.names h.names.each;
  }
