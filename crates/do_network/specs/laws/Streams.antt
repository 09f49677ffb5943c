-- What the laws of streams speak of.
use Rattle.std.specs.Prelude.{ℕ}
use Rattle.do_frames.specs.Frames.{raw}
use Rattle.do_network.specs.{Frames.Posted, Links.{Framed, Greeting, Link, Sending}}

-- the greeting, sent to a peer
abbrev pub greeting_to : ℕ → Sending
greeting_to peer = record { to = peer; piece = Greeting }

-- a frame, sent over a link and spelled by the names that were sent over it lately
abbrev pub framed_to : Posted → Link → Sending
framed_to x l = record { to = x.to; piece = Framed x.frame (raw l.sent x.frame) }
