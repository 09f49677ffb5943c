-- Frames: the kind and the one spelling of each payload, by a table of recent names.
use Rattle.do_frames.specs.declared.kind.Kind.TheVariants as kinds
use Rattle.std.specs.Prelude.{ℕ, ◌≤◌, List, [], ◌∷◌, ◌++◌, length}
use Rattle.do_base.specs.names.Names.{TokenName}
use Rattle.do_grammar.specs.Num.{num, digits, counted}
use Rattle.do_coder.specs.{declared.recent.pair.Pair.Pair, Recent.IsSerial}
use Rattle.do_coder.specs.Packets.{Surroundings, packet_spelling, IsPacket, after_packet}
use Rattle.do_frames.specs.declared.frame.Frame.{Frame, TheVariants.{Call, Oneway, Reply, Raised}}
use Rattle.do_frames.specs.declared.frame.Frame.TheVariants.{RootAsk, RootAnswer, Retain, Granted}
use Rattle.do_frames.specs.declared.frame.Frame.TheVariants.{Gone, Release, Settle, Shutdown}
use Rattle.do_frames.specs.declared.{frame.RawFrame.RawFrame, kind.Kind.Kind}
use Rattle.do_frames.specs.{Exceptions.{exc_spelling, IsExc}, Kinds.kind_number}
use Rattle.do_frames.specs.Selectors.{IsSelector}

abbrev pub kind_of : Frame → Kind
kind_of (Call call serial selector packet) = kinds.Call
kind_of (Oneway serial selector packet) = kinds.Oneway
kind_of (Reply call packet) = kinds.Reply
kind_of (Raised call exc) = kinds.Raised
kind_of (RootAsk call) = kinds.RootAsk
kind_of (RootAnswer call packet) = kinds.RootAnswer
kind_of (Retain serial token) = kinds.Retain
kind_of (Granted serial token) = kinds.Granted
kind_of (Gone serial token) = kinds.Gone
kind_of (Release serial amount) = kinds.Release
kind_of (Settle number) = kinds.Settle
kind_of Shutdown = kinds.Shutdown

-- ---- payloads

-- an object of a home, under a token
abbrev pub token_spelling : ℕ → TokenName → List ℕ
token_spelling serial token = num serial ++ (num token.lender ++ num token.number)

-- the spelling of a frame's payload by a table of recent names
abbrev pub payload_spelling : List Pair → Frame → List ℕ
payload_spelling table (Call call serial selector packet) =
    num call ++ (num serial ++ (counted selector ++ packet_spelling table packet))
payload_spelling table (Oneway serial selector packet) =
    num serial ++ (counted selector ++ packet_spelling table packet)
payload_spelling table (Reply call packet) = num call ++ packet_spelling table packet
payload_spelling table (Raised call exc) = num call ++ exc_spelling exc
payload_spelling table (RootAsk call) = num call
payload_spelling table (RootAnswer call packet) = num call ++ packet_spelling table packet
payload_spelling table (Retain serial token) = token_spelling serial token
payload_spelling table (Granted serial token) = token_spelling serial token
payload_spelling table (Gone serial token) = token_spelling serial token
payload_spelling table (Release serial amount) = num serial ++ num amount
payload_spelling table (Settle number) = num number
payload_spelling table Shutdown = []

-- what a token that is spelled has
abbrev pub IsToken : ℕ → TokenName → Type 0
IsToken serial token =
    IsSerial serial × (((1 ≤ token.lender) × (token.lender ≤ 65535)) × IsSerial token.number)

-- what has a payload
abbrev pub IsFrame : Surroundings → Frame → Type 0
IsFrame s (Call call serial selector packet) =
    IsSerial call × (IsSerial serial × (IsSelector selector × IsPacket s packet))
IsFrame s (Oneway serial selector packet) =
    IsSerial serial × (IsSelector selector × IsPacket s packet)
IsFrame s (Reply call packet) = IsSerial call × IsPacket s packet
IsFrame s (Raised call exc) = IsSerial call × IsExc exc
IsFrame s (RootAsk call) = IsSerial call
IsFrame s (RootAnswer call packet) = IsSerial call × IsPacket s packet
IsFrame s (Retain serial token) = IsToken serial token
IsFrame s (Granted serial token) = IsToken serial token
IsFrame s (Gone serial token) = IsToken serial token
IsFrame s (Release serial amount) = IsSerial serial × IsSerial amount
IsFrame s (Settle number) = IsSerial number
IsFrame s Shutdown = Unit {0}

-- the table of recent names after a frame
abbrev pub after_frame : List Pair → Frame → List Pair
after_frame table (Call call serial selector packet) = after_packet table packet
after_frame table (Oneway serial selector packet) = after_packet table packet
after_frame table (Reply call packet) = after_packet table packet
after_frame table (RootAnswer call packet) = after_packet table packet
after_frame table f = table

-- ---- whole frames

-- the number of a kind, four bytes of the payload's length, and the payload
abbrev pub raw_spelling : RawFrame → List ℕ
raw_spelling raw = raw.kind ∷ (digits 4 (length raw.payload) ++ raw.payload)

-- a frame with its payload by a table of recent names
abbrev pub raw : List Pair → Frame → RawFrame
raw table f = record { kind = kind_number (kind_of f); payload = payload_spelling table f }

-- the spelling of a frame by a table of recent names
abbrev pub frame_spelling : List Pair → Frame → List ℕ
frame_spelling table f = raw_spelling (raw table f)
