-- Which frames have a packet that is no longer than the heaviest message allows.
use Rattle.std.specs.Prelude.{ℕ, ◌+◌, ◌≤◌, List, length}
use Rattle.do_class.specs.declared.packet.Packet.{Packet}
use Rattle.do_coder.specs.{declared.recent.pair.Pair.Pair, Packets.packet_spelling}
use Rattle.do_frames.specs.declared.frame.Frame.{Frame}
use Rattle.do_frames.specs.declared.frame.Frame.TheVariants.{Call, Oneway, Reply, RootAnswer}
use Rattle.do_packet.specs.Packing.{most_weight}

-- the most bytes of a payload
abbrev pub longest_payload : ℕ
longest_payload = 2098176

-- a packet is spelled in no more bytes than the heaviest message weighs and 27
abbrev pub IsShort : List Pair → Packet → Type 0
IsShort recent p = length (packet_spelling recent p) ≤ most_weight + 27

-- the packet of a frame is so, where the frame has one
abbrev pub HasShortPacket : List Pair → Frame → Type 0
HasShortPacket recent (Call call serial selector packet) = IsShort recent packet
HasShortPacket recent (Oneway serial selector packet) = IsShort recent packet
HasShortPacket recent (Reply call packet) = IsShort recent packet
HasShortPacket recent (RootAnswer call packet) = IsShort recent packet
HasShortPacket recent f = Unit {0}
