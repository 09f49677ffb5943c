-- Items as frames, and frames as items.
use Rattle.do_frames.specs.declared.frame.Frame.TheVariants as frames
use Rattle.do_machine.specs.declared.item.Item.TheVariants as items
use Rattle.std.specs.Prelude.{Err, List, None, Ok, Option, Result, Some, [], length, map, ℕ, ◌-◌}
use Rattle.do_class.specs.{Class.Class, declared.packet.Packet.Packet}
use Rattle.do_coder.specs.{declared.recent.pair.Pair.Pair, Packets.{Surroundings, surroundings}}
use Rattle.do_export.specs.Counts.{Counts, count_of}
use Rattle.do_frames.specs.declared.{frame.{Frame.Frame, RawFrame.RawFrame}, kind.Kind.Kind}
use Rattle.do_frames.specs.{Kinds.kind_at, Payloads.payload_at}
use Rattle.do_grammar.specs.Reader.{Stop, bad, no_kind, short, whole_of}
use Rattle.do_machine.specs.declared.{item.{Item.Item, Message.Message}, state.Parcel.Parcel}

-- ---- items that are sent

-- an item as a frame; a release says how often the object was received that is given up
abbrev pub frame_of : ℕ → Item → Frame
frame_of amount (items.Call number m) = frames.Call number m.target m.selector m.packet
frame_of amount (items.Oneway m) = frames.Oneway m.target m.selector m.packet
frame_of amount (items.Reply number packet) = frames.Reply number packet
frame_of amount (items.Raised number e) = frames.Raised number e
frame_of amount (items.RootAsk number) = frames.RootAsk number
frame_of amount (items.RootAnswer number packet) = frames.RootAnswer number packet
frame_of amount (items.Ask serial token) = frames.Retain serial token
frame_of amount (items.Granted serial token) = frames.Granted serial token
frame_of amount (items.Gone serial token) = frames.Gone serial token
frame_of amount (items.Left serial) = frames.Release serial amount
frame_of amount (items.Settled number) = frames.Settle number
frame_of amount (items.End serials) = frames.Shutdown

-- how often the object of a peer was received that an item gives up; any other gives none up
abbrev pub amount_of : Counts → ℕ → Item → ℕ
amount_of received to (items.Left serial) = count_of received to serial
amount_of received to item = 0

-- a frame with the peer that it goes to
pub record Posted : Type 0 where
  pub to : ℕ
  pub frame : Frame

-- what was sent to a peer as a frame, by a node that received objects so often
abbrev pub posted : Counts → Parcel → Posted
posted received x =
    record { to = x.to; frame = frame_of (amount_of received x.to x.item) x.item }

-- what was sent as frames, in order
abbrev pub all_posted : Counts → List Parcel → List Posted
all_posted received sent = map (posted received) sent

-- ---- frames that are taken

-- a message to an own object
abbrev message_of : ℕ → List ℕ → Packet → Message
message_of serial selector packet =
    record { target = serial; selector = selector; packet = packet }

-- a frame as an item: a release says no amount there, and an end no names
abbrev pub item_of : Frame → Item
item_of (frames.Call number serial selector packet) =
    items.Call number (message_of serial selector packet)
item_of (frames.Oneway serial selector packet) =
    items.Oneway (message_of serial selector packet)
item_of (frames.Reply number packet) = items.Reply number packet
item_of (frames.Raised number e) = items.Raised number e
item_of (frames.RootAsk number) = items.RootAsk number
item_of (frames.RootAnswer number packet) = items.RootAnswer number packet
item_of (frames.Retain serial token) = items.Ask serial token
item_of (frames.Granted serial token) = items.Granted serial token
item_of (frames.Gone serial token) = items.Gone serial token
item_of (frames.Release serial amount) = items.Left serial
item_of (frames.Settle number) = items.Settled number
item_of frames.Shutdown = items.End []

-- ---- reading

-- the place at which the reading of a payload stopped
abbrev stop_place : List ℕ → Stop (Unit {0}) → ℕ
stop_place payload short = length payload
stop_place payload (bad why left) = length payload - left

-- the frame that was read of a payload, or the place of its fault
abbrev pub read_or_place : List ℕ → Result Frame (Stop (Unit {0})) → Result Frame ℕ
read_or_place payload (Ok f) = Ok f
read_or_place payload (Err stop) = Err (stop_place payload stop)

-- a payload of a kind, read whole; one of no kind is at fault at its first place
abbrev pub payload_read : Surroundings → List Pair → List ℕ → Option Kind → Result Frame ℕ
payload_read s recent payload None = Err 0
payload_read s recent payload (Some kind) =
    read_or_place payload (whole_of no_kind (payload_at s recent kind) payload)

-- the frame that a raw frame spells by the table of recent names, or the place of its fault
unfoldable pub read_frame : List Class → ℕ → ℕ → List Pair → RawFrame → Result Frame ℕ
read_frame table from to recent f =
    payload_read (surroundings table from to) recent f.payload (kind_at f.kind)
