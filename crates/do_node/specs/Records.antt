-- What the files of records say, one behind another.
use Rattle.do_sched.specs.declared.fault.SchedFault.TheVariants as sched
use Rattle.std.specs.Prelude.{◌≡◌, ℕ, ◌+◌, ◌⊎◌, List, [], ◌∷◌, ◌++◌, Option, Ok, Err, length}
use Rattle.do_base.specs.declared.outside.shelf.NamedFile.{NamedFile}
use Rattle.do_machine.specs.declared.state.Seat.{Seat}
use Rattle.do_record.specs.declared.parts.Record.{Record}
use Rattle.do_sched.specs.declared.fault.SchedFault.{SchedFault}
use Rattle.do_woven.specs.Judging.{judged}
use Rattle.do_given.specs.declared.status.Status.{Status, TheVariants.{BadRecord, Memory}}
use Rattle.do_given.specs.{Files.{IsUnread, most_of_record}, Reading.{HasText, NamesNone}}

-- what is told of a fault of a record: which record it is, and the line
abbrev pub told_of_record : ℕ → SchedFault → Status
told_of_record index (sched.BadLine line) = BadRecord index line
told_of_record index (sched.TooMany line) = BadRecord index line
told_of_record index (sched.NoEnd line) = BadRecord index line
told_of_record index sched.Memory = Memory

-- the bytes are a record behind earlier ones of a world's nodes
abbrev pub IsRecord : List Seat → List Record → List ℕ → Record → Type 0
IsRecord seats earlier bytes r = judged seats earlier bytes ≡ Ok r

-- the bytes are none, and the answer tells their first line at fault
pub record IsNoRecord (seats : List Seat) (earlier : List Record) (bytes : List ℕ)
    (status : Status) : Type 0 where
  pub fault : SchedFault
  pub is_fault : judged seats earlier bytes ≡ Err fault
  pub tells : status ≡ told_of_record (length earlier + 1) fault

-- the file of a name is a record behind earlier ones
abbrev pub SaysRecord : Option (List NamedFile) → List Seat → List Record → List ℕ → Record
    → Type 0
SaysRecord told seats earlier name r =
    HasText (IsRecord seats earlier) told name most_of_record r

-- the file of a name is too long, or no record behind earlier ones
abbrev pub SaysNoRecord : Option (List NamedFile) → List Seat → List Record → List ℕ → Status
    → Type 0
SaysNoRecord told seats earlier name status =
    NamesNone (IsNoRecord seats earlier) told name most_of_record status

-- with the earlier ones, the files of these names are these records
abbrev pub SayRecords : Option (List NamedFile) → List Seat → List Record → List (List ℕ)
    → List Record → Type 0
SayRecords told seats earlier [] records = records ≡ earlier
SayRecords told seats earlier (name ∷ names) records =
    (r : Record) × SaysRecord told seats earlier name r
    × SayRecords told seats (earlier ++ r ∷ []) names records

-- of the files of these names, the first that is at fault is refused so
abbrev pub SayNoRecords : Option (List NamedFile) → List Seat → List Record → List (List ℕ)
    → Status → Type 0
SayNoRecords told seats earlier [] status = ⊥
SayNoRecords told seats earlier (name ∷ names) status =
    SaysNoRecord told seats earlier name status
    ⊎ ((r : Record) × SaysRecord told seats earlier name r
    × SayNoRecords told seats (earlier ++ r ∷ []) names status)

-- one of the files of these names could not be read
abbrev pub AnyUnread : Option (List NamedFile) → ℕ → ℕ → List (List ℕ) → Type 0
AnyUnread told before now [] = ⊥
AnyUnread told before now (name ∷ names) =
    IsUnread told before now name ⊎ AnyUnread told before now names
