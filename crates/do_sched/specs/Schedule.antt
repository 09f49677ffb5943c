-- Which bytes are a schedule, and which line of other bytes is at fault.
use Rattle.do_grammar.specs.Lines as text
use Rattle.std.specs.Prelude.{true, ◌≡◌, ◌≢◌, ℕ, ◌+◌, ◌<◌, ◌≤◌, List as Listed, [], ◌∷◌, ◌++◌}
use Rattle.std.specs.{Prelude.{length, map, ◌⊎◌}, List.AllByRecursion}
use Rattle.do_grammar.specs.Lines.{cut}
use Rattle.do_sched.specs.declared.{line.Line.Line, fault.SchedFault.SchedFault}
use Rattle.do_sched.specs.declared.fault.SchedFault.TheVariants.{BadLine, TooMany, NoEnd, Memory}
use Rattle.do_sched.specs.{declared.version.Version.{Version, TheVariants.Second}, Version.header}
use Rattle.do_sched.specs.Spelling.{line_spelling, footer, spelling, steps, steps_of}
use Rattle.do_sched.specs.Good.{IsLineOf}

-- at most a million single steps
abbrev pub most_steps : ℕ
most_steps = 1000000

-- these bytes are the schedule of these lines, in a version
pub record IsScheduleOf (version : Version) (bytes : Listed ℕ)
    (lines : Listed Line) : Type 0 where
  pub spelled : bytes ≡ spelling version lines
  pub good : AllByRecursion (IsLineOf version) lines
  pub few : steps_of lines ≤ most_steps

-- a text that stands as a line of its own
abbrev pub whole : Listed ℕ → text.Line
whole bytes = record { text = bytes; fed = true }

-- a schedule begins with these lines, and what is left of the bytes are these lines of text
pub record Opens (version : Version) (bytes : Listed ℕ) (lines : Listed Line)
    (rest : Listed text.Line) : Type 0 where
  pub spelled :
      cut bytes ≡ whole (header version) ∷ map (λ l. whole (line_spelling l)) lines ++ rest
  pub good : AllByRecursion (IsLineOf version) lines
  pub few : steps_of lines ≤ most_steps

-- a line of text that is neither `end` nor any line of a schedule
pub record IsNoLine (version : Version) (t : text.Line) : Type 0 where
  pub no_end : t ≢ whole footer
  pub no_line : (l : Line) → IsLineOf version l → t ≢ whole (line_spelling l)

-- line n may not stand where it stands: as the first, between the first and `end`, or behind `end`
pub data IsBadLine (version : Version) (bytes : Listed ℕ) : ℕ → Type 0 where
  at_first : (t : text.Line) (rest : Listed text.Line) → cut bytes ≡ t ∷ rest
      → t ≢ whole (header version) → IsBadLine version bytes 1
  between : (lines : Listed Line) (t : text.Line) (rest : Listed text.Line)
      → Opens version bytes lines (t ∷ rest) → IsNoLine version t
      → IsBadLine version bytes (length lines + 2)
  behind : (lines : Listed Line) (t : text.Line) (rest : Listed text.Line)
      → Opens version bytes lines (whole footer ∷ t ∷ rest)
      → IsBadLine version bytes (length lines + 3)

-- line n is a good one with which the steps are too many
pub data IsTooMany (version : Version) (bytes : Listed ℕ) : ℕ → Type 0 where
  over : (lines : Listed Line) (l : Line) (rest : Listed text.Line)
      → Opens version bytes lines (whole (line_spelling l) ∷ rest) → IsLineOf version l
      → most_steps < steps_of lines + steps l → IsTooMany version bytes (length lines + 2)

-- the bytes end behind the first n lines less one, which are good, and without `end`
pub data IsEndMissing (version : Version) (bytes : Listed ℕ) : ℕ → Type 0 where
  at_start : bytes ≡ [] → IsEndMissing version bytes 1
  later : (lines : Listed Line) → Opens version bytes lines []
      → IsEndMissing version bytes (length lines + 2)

-- this is what is wrong with the bytes as a schedule of a version
abbrev pub IsFaultOf : Version → Listed ℕ → SchedFault → Type 0
IsFaultOf version bytes (BadLine n) = IsBadLine version bytes n
IsFaultOf version bytes (TooMany n) = IsTooMany version bytes n
IsFaultOf version bytes (NoEnd n) = IsEndMissing version bytes n
IsFaultOf version bytes Memory = ⊥

-- these bytes are the schedule of these lines, in the second version, which is the one that is read
abbrev pub IsSchedule : Listed ℕ → Listed Line → Type 0
IsSchedule = IsScheduleOf Second

-- this is what is wrong with the bytes
abbrev pub IsFault : Listed ℕ → SchedFault → Type 0
IsFault = IsFaultOf Second

-- line n is the first faulty one
abbrev pub IsFaultAt : Listed ℕ → ℕ → Type 0
IsFaultAt bytes n =
    IsBadLine Second bytes n ⊎ IsTooMany Second bytes n ⊎ IsEndMissing Second bytes n
