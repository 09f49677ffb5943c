-- How frames and lines wait in one region of cells.
use Rattle.std.specs.Prelude.{List, None, Option, Some, [], get_or, length, map, ℕ, ◌+◌, ◌∷◌, ◌≡◌}
use Rattle.std.specs.Prelude.{◌≤◌}
use Rattle.do_base.specs.declared.events.shown.Shown.{Shown}
use Rattle.do_pool.specs.Pool.{Pool}
use Rattle.do_streams.specs.declared.{end.Outgoing.Outgoing, waiting.Queued.Queued}
use Rattle.do_streams.specs.declared.waiting.Queued.TheVariants.{Frame, Line}

-- the frames that wait, the oldest of them where it was taken out of its cell, the lines that wait,
-- how many more of either fit with no memory taken, and in how many places there is no frame
pub record Waits : Type 0 where
  pub frames : List Outgoing
  pub oldest : Option Outgoing
  pub shown : List Shown
  pub room : ℕ
  pub bare : ℕ

-- the frames of a queue
abbrev pub frames_in : List Queued → List Outgoing
frames_in [] = []
frames_in (Frame x ∷ rest) = x ∷ frames_in rest
frames_in (Line line ∷ rest) = frames_in rest

-- the lines of a queue
abbrev pub lines_in : List Queued → List Shown
lines_in [] = []
lines_in (Frame x ∷ rest) = lines_in rest
lines_in (Line line ∷ rest) = line ∷ lines_in rest

-- a frame that was taken out, before those behind it
abbrev pub oldest_first : Option Outgoing → List Outgoing → List Outgoing
oldest_first None frames = frames
oldest_first (Some x) frames = x ∷ frames

-- the queue of frames and that of lines
abbrev pub queues_of : List Outgoing → List Shown → List (List Queued)
queues_of frames lines = map (λ x. Frame x) frames ∷ map (λ line. Line line) lines ∷ []

-- the frames that wait in cells
abbrev pub framed : Pool Queued → List Outgoing
framed pool = frames_in (get_or pool.queues 0 [])

-- the lines that wait in cells
abbrev pub lined : Pool Queued → List Shown
lined pool = lines_in (get_or pool.queues 1 [])

-- what is seen of a region, beside a frame that was taken out
abbrev pub waits_of : Pool Queued → Option Outgoing → ℕ → ℕ → Waits
waits_of pool oldest room bare = record {
  frames = oldest_first oldest (framed pool);
  oldest = oldest;
  shown = lined pool;
  room = room;
  bare = bare;
}

-- frames wait in one queue and lines in the other
abbrev pub AreApart : Pool Queued → Type 0
AreApart pool = pool.queues ≡ queues_of (framed pool) (lined pool)

-- so, and each place with no frame in it is room or has a line in it, and each other one a frame
pub record AreQueued (pool : Pool Queued) (room bare places : ℕ) : Type 0 where
  pub apart : AreApart pool
  pub free : room ≤ pool.spare
  pub lines : room + length (lined pool) ≡ bare
  pub all : bare + length (framed pool) ≡ places
