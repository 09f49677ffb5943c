-- Where a frame stands in the bytes that it begins.
use Rattle.std.specs.Prelude.{ℕ, ◌-◌, ◌≤◌, Bool, List, length, drop, take, Result, Ok, Err}
use Rattle.do_grammar.specs.declared.fault.ReadFault.{ReadFault, TheVariants.{Memory, Short, Bad}}
use Rattle.do_grammar.specs.Grammar.{IsProperFront, IsFirstBad, Takes}
use Rattle.do_frames.specs.{declared.stream.front.FramePlace.FramePlace, Streams.Front}

-- a frame begins the bytes, and its payload stands between two places
pub record IsPlaced (greeted : Bool) (bytes : List ℕ) (p : FramePlace) : Type 0 where
  pub order : p.begins ≤ p.ends
  pub inside : p.ends ≤ length bytes
  pub taken : Takes (Front greeted) bytes
      (record { kind = p.kind; payload = drop p.begins (take p.ends bytes) }) (drop p.ends bytes)

-- what an answer tells of the bytes
abbrev pub TellsPlace : Bool → List ℕ → Result FramePlace ReadFault → Type 0
TellsPlace greeted bytes (Ok p) = IsPlaced greeted bytes p
TellsPlace greeted bytes (Err Short) = IsProperFront (Front greeted) bytes
TellsPlace greeted bytes (Err (Bad left)) =
    (left ≤ length bytes) × IsFirstBad (Front greeted) bytes (length bytes - left)
TellsPlace greeted bytes (Err Memory) = Unit {0}
