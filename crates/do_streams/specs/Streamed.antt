-- What is seen of the streams between a site and its peers.
use Rattle.std.specs.Prelude.{List, None, Option, Some, [], map, ℕ, ◌++◌, ◌∷◌}
use Rattle.do_base.specs.declared.events.shown.Shown.{Shown}
use Rattle.do_network.specs.{Frames.Posted, Links.{Link, Outbox, Sending, all_sent}}
use Rattle.do_streams.specs.{Pieces.piece_in, declared.end.{End.End, Outgoing.Outgoing}}
use Rattle.do_streams.specs.{declared.spelled.Spelled.Spelled, Waits.Waits}

-- the links of a site as they are behind all frames that wait, what is sent of these frames, the
-- lines that wait, how many more of either fit with no memory taken, in how many places there is no
-- frame, and by how many classes frames are read, which no step changes
pub record Streamed : Type 0 where
  pub links : List Link
  pub frames : List Sending
  pub shown : List Shown
  pub room : ℕ
  pub bare : ℕ
  pub classes : ℕ

-- the link of an end, behind the frames that were fetched
abbrev pub link_of : End → Link
link_of e = record { peer = e.peer; sent = e.sent; read = e.read; greeted = e.greeted }

-- a frame that waits, with its peer
abbrev pub posted_of : Outgoing → Posted
posted_of x = record { to = x.to; frame = x.frame }

-- the links behind frames that wait, and what is sent of these
abbrev pub outbox_of : List End → List Outgoing → Outbox
outbox_of ends frames = all_sent (map link_of ends) (map posted_of frames)

-- what is sent, as it was spelled
abbrev pub sending_of : Spelled → Sending
sending_of s = record { to = s.to; piece = piece_in s.frame s.bytes }

-- what is sent first, where it is spelled already
abbrev pub spelled_first : Option Spelled → List Sending
spelled_first None = []
spelled_first (Some s) = sending_of s ∷ []

-- what is seen of ends, and of what waits
abbrev pub streamed_of : List End → Option Spelled → Waits → ℕ → Streamed
streamed_of ends spelled waits classes =
    let out = outbox_of ends waits.frames in
    record {
      links = out.links;
      frames = spelled_first spelled ++ out.sent;
      shown = waits.shown;
      room = waits.room;
      bare = waits.bare;
      classes = classes;
    }

-- the links of a site, and what waits for its peers
abbrev pub outbox : Streamed → Outbox
outbox s = record { links = s.links; sent = s.frames }
