-- Frames of a peer, read by the names that its frames named lately.
use Rattle.std.specs.Prelude.{Err, List, Ok, Option, Result, [], option_map, unwrap_or, ℕ, ◌≡◌}
use Rattle.std.specs.List.{AllByRecursion}
use Rattle.do_coder.specs.{declared.recent.pair.Pair.Pair, Recent.IsKnown}
use Rattle.do_frames.specs.declared.fault.RawFault.{RawFault, TheVariants.{BadFrame, Memory}}
use Rattle.do_frames.specs.{declared.frame.Frame.Frame, Frames.after_frame}
use Rattle.do_network.specs.Links.{Link, link_to}
use Rattle.do_streams.specs.declared.{end.End.End, reading.Reading.Reading}

-- the names that a peer's frames named lately
abbrev pub names_of : List Link → ℕ → List Pair
names_of links peer = unwrap_or (option_map (λ l. l.read) (link_to links peer)) []

-- names of so many classes
abbrev pub AreKnown : ℕ → List Pair → Type 0
AreKnown classes names = AllByRecursion (IsKnown classes) names

-- the peers' frames named objects of so many classes
abbrev pub AllKnown : ℕ → List End → Type 0
AllKnown classes ends = AllByRecursion (λ e. AreKnown classes e.read) ends

-- an answer of a reader is the frame that is read, or the place of its fault
abbrev pub IsRead : Result Frame ℕ → Result Frame RawFault → Type 0
IsRead read (Ok f) = read ≡ Ok f
IsRead read (Err (BadFrame place)) = read ≡ Err place
IsRead read (Err Memory) = Unit {0}

-- a frame was read, with the names after it, where these are others than before
abbrev pub IsReadBy : List Pair → Frame → Option (List Pair) → Type 0
IsReadBy names frame later = unwrap_or later names ≡ after_frame names frame

-- so with the frame or the place of its fault
abbrev pub IsReading : List Pair → Result Frame ℕ → Result Reading RawFault → Type 0
IsReading names read (Ok r) = (read ≡ Ok r.frame) × IsReadBy names r.frame r.names
IsReading names read (Err (BadFrame place)) = read ≡ Err place
IsReading names read (Err Memory) = Unit {0}
