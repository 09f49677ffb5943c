-- Whole streams, in whatever pieces they come: the frames behind the greeting, and what has come of
-- the next one.
use Rattle.std.specs.Prelude.{◌≡◌, ℕ, ◌-◌, Bool, true, false, List, [], ◌∷◌, ◌++◌, length, None}
use Rattle.std.specs.List.{flat_map, AllByRecursion}
use Rattle.do_grammar.specs.Grammar.{IsProperFront, IsFirstBad}
use Rattle.do_frames.specs.declared.fault.StreamFault.{StreamFault, TheVariants.Memory}
use Rattle.do_frames.specs.{declared.frame.RawFrame.RawFrame, Frames.raw_spelling}
use Rattle.do_frames.specs.Streams.{hello, IsRaw, Front, Stream, fault_of, place_after}

-- there is a frame, so that the greeting was passed over
abbrev pub some_frame : List RawFrame → Bool
some_frame [] = false
some_frame (f ∷ frames) = true

-- the greeting where it was passed over, the frames, and the rest
abbrev pub stream_of : List RawFrame → List ℕ → List ℕ
stream_of [] rest = rest
stream_of (f ∷ frames) rest = hello ++ (flat_map raw_spelling (f ∷ frames) ++ rest)

-- the pieces, one behind the other
abbrev pub joined_pieces : List (List ℕ) → List ℕ
joined_pieces = flat_map (λ piece. piece)

-- the stream is these frames, and then less than a whole one
pub record Splits (stream : List ℕ) (frames : List RawFrame) (rest : List ℕ) : Type 0 where
  pub whole : stream ≡ stream_of frames rest
  pub each : AllByRecursion IsRaw frames
  pub partial : IsProperFront (Front (some_frame frames)) rest

-- the stream is some frames, and then bytes with which none goes on, which is this fault
pub record IsMalformed (stream : List ℕ) (fault : StreamFault) : Type 0 where
  pub frames : List RawFrame
  pub rest : List ℕ
  pub at : ℕ
  pub whole : stream ≡ stream_of frames rest
  pub each : AllByRecursion IsRaw frames
  pub first : IsFirstBad (Front (some_frame frames)) rest at
  pub told : fault ≡ fault_of (record {
    greeted = some_frame frames;
    place = place_after 0 (length stream - length rest);
    rest = rest;
    fault = None;
  }) at

-- What a reader has done with what was fed: it gave these frames, keeps the rest, and found no
-- fault.
pub record HasRead (fed : List ℕ) (frames : List RawFrame) (s : Stream) : Type 0 where
  pub whole : fed ≡ stream_of frames s.rest
  pub each : AllByRecursion IsRaw frames
  pub greeted : s.greeted ≡ some_frame frames
  pub place : s.place ≡ place_after 0 (length fed - length s.rest)
  pub fault : s.fault ≡ None

-- where a fault was found, and memory did not run out, no stream goes on so
abbrev pub FindsNoMore : List ℕ → StreamFault → Type 0
FindsNoMore fed Memory = Unit {0}
FindsNoMore fed fault = IsMalformed fed fault
