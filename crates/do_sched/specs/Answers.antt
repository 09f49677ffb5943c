-- What the answers of the readers of schedules say of the bytes.
use Rattle.std.specs.Prelude.{◌≡◌, ℕ, List as Listed, Result, Ok, Err}
use Rattle.do_sched.specs.declared.{line.Line.Line, fault.SchedFault.SchedFault}
use Rattle.do_sched.specs.declared.{fault.SchedFault.TheVariants.Memory, version.Version.Version}
use Rattle.do_sched.specs.declared.version.Version.TheVariants.{First}
use Rattle.do_sched.specs.Schedule.{IsScheduleOf, IsFaultOf, IsSchedule}

-- the lines are those of the bytes, or the fault is theirs; nothing is said where memory ran out
abbrev pub TellsSchedule : Version → Listed ℕ → Result (Listed Line) SchedFault → Type 0
TellsSchedule version bytes (Ok lines) = IsScheduleOf version bytes lines
TellsSchedule version bytes (Err Memory) = Unit {0}
TellsSchedule version bytes (Err fault) = IsFaultOf version bytes fault

-- the answer is this one, unless memory ran out
abbrev pub AnswersWith : {A : Type 0} → Result A SchedFault → Result A SchedFault → Type 0
AnswersWith wanted (Err Memory) = Unit {0}
AnswersWith wanted result = result ≡ wanted

-- the bytes are a schedule of the first version, and the text is that of the same lines in the
-- second
pub record Upgrades (bytes text : Listed ℕ) : Type 0 where
  pub lines : Listed Line
  pub first : IsScheduleOf First bytes lines
  pub second : IsSchedule text lines

-- the text is the upgraded one of the bytes, or the fault is theirs; nothing is said where memory
-- ran out
abbrev pub TellsUpgraded : Listed ℕ → Result (Listed ℕ) SchedFault → Type 0
TellsUpgraded bytes (Ok text) = Upgrades bytes text
TellsUpgraded bytes (Err Memory) = Unit {0}
TellsUpgraded bytes (Err fault) = IsFaultOf First bytes fault
