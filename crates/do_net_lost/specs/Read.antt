-- A frame that was read of a lane, and what is left of the lane then.
use Rattle.std.specs.Prelude.{Bool, List, None, Ok, Option, Result, Some, [], if◌then◌else◌, is_err}
use Rattle.std.specs.Prelude.{true, ◌≡◌, ℕ}
use Rattle.do_base.specs.names.Names.{ObjectName}
use Rattle.do_class.specs.Class.{Class}
use Rattle.do_coder.specs.declared.recent.pair.Pair.{Pair}
use Rattle.do_frames.specs.{declared.frame.Frame.Frame, Frames.after_frame}
use Rattle.do_net_named.specs.Waiting.{lane_names}
use Rattle.do_network.specs.Net.{Carried}

-- a frame was read, and the names are those behind it; or it could not be read
abbrev pub IsReadOf : List Pair → List Pair → Result Frame ℕ → Option Frame → Type 0
IsReadOf before after read None = is_err read ≡ true
IsReadOf before after read (Some f) = (read ≡ Ok f) × (after ≡ after_frame before f)

-- what the rest of a lane names, behind a frame that could be read; else none of it is read
abbrev pub left_names : List Class → ℕ → ℕ → List Pair → List Carried → Bool → List ObjectName
left_names table from to names behind goes_on =
    if goes_on then lane_names table from to names behind else []
