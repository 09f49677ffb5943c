-- What the words of a command give: a world, the lines of a schedule, an upgraded schedule.
use Rattle.do_sched.specs.declared.fault.SchedFault.TheVariants as sched
use Rattle.std.specs.Prelude.{◌≡◌, ℕ, ◌⊎◌, List, Option, Some, None, Result, Err}
use Rattle.do_base.specs.declared.outside.shelf.NamedFile.{NamedFile}
use Rattle.do_sched.specs.declared.{line.Line.Line, fault.SchedFault.SchedFault}
use Rattle.do_sched.specs.declared.version.Version.{Version, TheVariants.{First, Second}}
use Rattle.do_sched.specs.{Schedule.{IsScheduleOf, IsFaultOf}, Spelling.spelling}
use Rattle.do_world.specs.{Builtin.builtin_world, Reading.{IsWorldText, first_fault}}
use Rattle.do_document.specs.declared.fault.WorldFault.{WorldFault}
use Rattle.do_world.specs.declared.world.World.{World}
use Rattle.do_given.specs.declared.{scheduled.Scheduled.Scheduled, status.Status.Status}
use Rattle.do_given.specs.declared.status.Status.TheVariants.{ReadFault, BadWorld, BadSchedule}
use Rattle.do_given.specs.declared.status.Status.TheVariants.{WriteFault, Memory}
use Rattle.do_given.specs.Files.{IsFile, IsLong, IsUnread, most_of_schedule, most_of_world}

-- the file of a name has a text that reads so
pub record HasText {A : Type 0} (reads : List ℕ → A → Type 0) (told : Option (List NamedFile))
    (name : List ℕ) (most : ℕ) (x : A) : Type 0 where
  pub bytes : List ℕ
  pub file : IsFile told name most bytes
  pub is_read : reads bytes x

-- the file of a name is too long, or has a text that is refused so
abbrev pub NamesNone : (List ℕ → Status → Type 0) → Option (List NamedFile) → List ℕ → ℕ → Status
    → Type 0
NamesNone refuses told name most status =
    IsLong told name most status ⊎ HasText refuses told name most status

-- the bytes are no world's text, and the answer tells their first fault
pub record IsNoWorld (bytes : List ℕ) (status : Status) : Type 0 where
  pub fault : WorldFault
  pub first : first_fault bytes ≡ Some fault
  pub tells : status ≡ BadWorld fault

-- the file of a name says this world
abbrev pub SaysWorld : Option (List NamedFile) → List ℕ → World → Type 0
SaysWorld told name world = HasText IsWorldText told name most_of_world world

-- the file of a name is too long, or says no world
abbrev pub SaysNoWorld : Option (List NamedFile) → List ℕ → Status → Type 0
SaysNoWorld told name status = NamesNone IsNoWorld told name most_of_world status

-- a word gives a world: it is the name of a built-in one, or else of a file that says it
abbrev pub GivesWorld : Option (List NamedFile) → List ℕ → World → Type 0
GivesWorld told word world = (builtin_world word ≡ Some world)
    ⊎ ((builtin_world word ≡ None) × SaysWorld told word world)

-- a word gives no world: it is the name of no built-in one, and its file says none
abbrev pub RefusesWorld : Option (List NamedFile) → List ℕ → Status → Type 0
RefusesWorld told word status = (builtin_world word ≡ None) × SaysNoWorld told word status

-- what is told of a fault of a schedule: its line
abbrev pub told_of : SchedFault → Status
told_of (sched.BadLine line) = BadSchedule line
told_of (sched.TooMany line) = BadSchedule line
told_of (sched.NoEnd line) = BadSchedule line
told_of sched.Memory = Memory

-- the bytes are no schedule of a version, and the answer tells the line of their fault
pub record IsNoSchedule (version : Version) (bytes : List ℕ) (status : Status) : Type 0 where
  pub fault : SchedFault
  pub is_fault : IsFaultOf version bytes fault
  pub tells : status ≡ told_of fault

-- the file of a name is the schedule of these lines, in a version
abbrev pub SaysLines : Version → Option (List NamedFile) → List ℕ → List Line → Type 0
SaysLines version told name lines =
    HasText (IsScheduleOf version) told name most_of_schedule lines

-- the file of a name is too long, or is no schedule of a version
abbrev pub SaysNoLines : Version → Option (List NamedFile) → List ℕ → Status → Type 0
SaysNoLines version told name status =
    NamesNone (IsNoSchedule version) told name most_of_schedule status

-- a word gives a world, and another the lines of a schedule over it
pub record GivesScheduled (told : Option (List NamedFile)) (word name : List ℕ)
    (given : Scheduled) : Type 0 where
  pub gives : GivesWorld told word given.world
  pub says : SaysLines Second told name given.lines

-- something is given, and what is to come behind it is refused
pub record RefusesSecond {A : Type 0} (gives : A → Type 0) (refuses : Status → Type 0)
    (status : Status) : Type 0 where
  pub first : A
  pub given : gives first
  pub refused : refuses status

-- the first of two words gives no world, or else the second no schedule
abbrev pub RefusesScheduled : Option (List NamedFile) → List ℕ → List ℕ → Status → Type 0
RefusesScheduled told word name status = RefusesWorld told word status
    ⊎ RefusesSecond (GivesWorld told word) (SaysNoLines Second told name) status

-- the file of a world could not be read, or the file that is read behind it
abbrev pub HasUnreadScheduled : Option (List NamedFile) → ℕ → ℕ → List ℕ → List ℕ → Type 0
HasUnreadScheduled told before now word name =
    ((builtin_world word ≡ None) × IsUnread told before now word) ⊎ IsUnread told before now name

-- the bytes are a schedule of the first version, and the text is the one of the second that has the
-- same lines
pub record IsUpgraded (bytes text : List ℕ) : Type 0 where
  pub lines : List Line
  pub first : IsScheduleOf First bytes lines
  pub spelled : text ≡ spelling Second lines

-- the text is what the schedule in the file of a name is upgraded to
abbrev pub IsUpgrade : Option (List NamedFile) → List ℕ → List ℕ → Type 0
IsUpgrade told name text = HasText IsUpgraded told name most_of_schedule text

-- what stops a command: memory that ran out, of which nothing is said, a file that could not be
-- read, a sink that failed, or else a refusal
abbrev pub Stops : (unread failed : Type 0) → (Status → Type 0) → Status → Type 0
Stops unread failed refuses Memory = Unit {0}
Stops unread failed refuses ReadFault = unread
Stops unread failed refuses WriteFault = failed
Stops unread failed refuses status = refuses status

-- the answer is this one, unless memory ran out
abbrev pub OrMemory : {A : Type 0} → Result A Status → Result A Status → Type 0
OrMemory wanted result = (result ≡ wanted) ⊎ (result ≡ Err Memory)

-- the answer is this one, unless a file could not be read or memory ran out
abbrev pub OrUnread : {A : Type 0} → Result A Status → Result A Status → Type 0
OrUnread wanted result = (result ≡ wanted) ⊎ (result ≡ Err ReadFault) ⊎ (result ≡ Err Memory)
