-- Bytes as what they are in a stream.
use Rattle.std.specs.Prelude.{List, None, Option, Some, drop, get_or, ℕ}
use Rattle.do_frames.specs.declared.frame.{Frame.Frame, RawFrame.RawFrame}
use Rattle.do_network.specs.Links.{Framed, Greeting, Piece}

-- the frame that begins bytes with its kind and the length of its payload
abbrev pub frame_in : List ℕ → RawFrame
frame_in bytes = record { kind = get_or bytes 0 0; payload = drop 5 bytes }

-- what bytes are in a stream: a frame, or the greeting where they are of none
abbrev pub piece_in : Option Frame → List ℕ → Piece
piece_in None bytes = Greeting
piece_in (Some f) bytes = Framed f (frame_in bytes)
