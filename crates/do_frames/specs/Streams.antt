-- Streams of frames, which begin with a greeting, and how they are read.
use Rattle.std.specs.Prelude.{◌≡◌, ◌==◌, ◌&&◌, ℕ, ◌+◌, ◌-◌, ◌%◌, ◌^◌, ◌≤◌, Bool, true, false, List}
use Rattle.std.specs.Prelude.{[], ◌∷◌, ◌++◌, length, get_or, nat_le, nat_lt, Option, Some, None}
use Rattle.std.specs.Prelude.{Result, Ok, Err, if◌then◌else◌}
use Rattle.do_grammar.specs.{Grammar.{IsBytes, IsProperFront, IsFirstBad}, Num.digits_at}
use Rattle.do_grammar.specs.OneSpelling.{Spelled, both}
use Rattle.do_grammar.specs.Reader.{Reader, no_kind, done, and_then, mapped, byte_of, bytes_of}
use Rattle.do_frames.specs.declared.fault.StreamFault.{StreamFault, TheVariants.BadKind}
use Rattle.do_frames.specs.declared.fault.StreamFault.TheVariants.{BadLength, BadVersion, Memory}
use Rattle.do_frames.specs.{declared.frame.RawFrame.RawFrame, Frames.raw_spelling}

-- ---- the grammar

-- what a stream begins with
abbrev pub hello : List ℕ
hello = 13 ∷ 0 ∷ 0 ∷ 0 ∷ 1 ∷ 2 ∷ []

-- what is still to come before the next frame
abbrev pub greeting : Bool → List ℕ
greeting true = []
greeting false = hello

-- what has a spelling
pub record IsRaw (f : RawFrame) : Type 0 where
  pub kind : (1 ≤ f.kind) × (f.kind ≤ 12)
  pub short : length f.payload ≤ 2098176
  pub small : IsBytes f.payload

-- the next frame of a stream that was greeted, or not yet
abbrev pub Front : Bool → List ℕ → RawFrame → Type 0
Front greeted = Spelled (λ f. greeting greeted ++ raw_spelling f) IsRaw

-- ---- what a reader keeps

-- whether the greeting was passed over, how many bytes were taken, which bytes are kept, and the
-- fault that was found
pub record Stream : Type 0 where
  pub greeted : Bool
  pub place : ℕ
  pub rest : List ℕ
  pub fault : Option StreamFault

-- places are counted by 64 bits
abbrev pub place_after : ℕ → ℕ → ℕ
place_after place n = (place + n) % 2 ^ 64

-- the fault of a stream whose byte at a place of the rest is bad
abbrev pub fault_of : Stream → ℕ → StreamFault
fault_of s at =
    if s.greeted then later_fault else first_fault
  where
    later_fault : StreamFault
    later_fault = if at == 0 then BadKind s.place else BadLength (place_after s.place 1)

    first_fault : StreamFault
    first_fault =
        if at == 0 then BadKind 0
        else if nat_lt at 5 then BadLength 1
        else if at == 5 then BadVersion (get_or s.rest 5 0)
        else if at == 6 then BadKind 6
        else BadLength 7

-- a frame was taken from the stream
pub record TakesFrame (old : Stream) (f : RawFrame) (new : Stream) : Type 0 where
  pub parts : old.rest ≡ (greeting old.greeted ++ raw_spelling f) ++ new.rest
  pub frame : IsRaw f
  pub greeted : new.greeted ≡ true
  pub place : new.place ≡ place_after old.place (length old.rest - length new.rest)
  pub fault : new.fault ≡ None

-- a fault was found in the stream
pub record FindsFault (old : Stream) (fault : StreamFault) (new : Stream) : Type 0 where
  pub at : ℕ
  pub first : IsFirstBad (Front old.greeted) old.rest at
  pub kept : new ≡ record {
    greeted = old.greeted;
    place = old.place;
    rest = old.rest;
    fault = Some (fault_of old at);
  }
  pub told : fault ≡ fault_of old at

-- what an answer tells where no fault was found before
abbrev pub TellsFirst : Stream → Stream → Result (Option RawFrame) StreamFault → Type 0
TellsFirst old new (Ok (Some f)) = TakesFrame old f new
TellsFirst old new (Ok None) = IsProperFront (Front old.greeted) old.rest × (new ≡ old)
TellsFirst old new (Err Memory) = new ≡ old
TellsFirst old new (Err fault) = FindsFault old fault new

-- what an answer tells
abbrev pub TellsNext : Option StreamFault → Stream → Stream → Result (Option RawFrame) StreamFault
    → Type 0
TellsNext None old new result = TellsFirst old new result
TellsNext (Some fault) old new result = (result ≡ Err fault) × (new ≡ old)

-- ---- reading

abbrev pub is_kind : ℕ → Bool
is_kind b = nat_le 1 b && nat_le b 12

-- just these bytes
abbrev pub just : List ℕ → Reader (Unit {0}) (Unit {0})
just [] = done tt
just (b ∷ bytes) = and_then (byte_of (λ c. c == b) (λ c. no_kind)) (λ c. just bytes)

abbrev pub raw_of : ℕ × List ℕ → RawFrame
raw_of p = record { kind = p.0; payload = p.1 }

unfoldable pub frame_at : Reader (Unit {0}) RawFrame
frame_at =
    mapped raw_of
    (both (byte_of is_kind (λ b. no_kind)) (λ kind.
    and_then (digits_at no_kind 0 2098176 4 0) (λ n. bytes_of n)))

unfoldable pub front_at : Bool → Reader (Unit {0}) RawFrame
front_at greeted = and_then (just (greeting greeted)) (λ u. frame_at)
