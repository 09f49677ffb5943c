-- A refusal is neither an answer that all is well nor one on the words.
use Rattle.do_cli.specs.declared.command.Command.TheVariants as asked
use Rattle.do_sched.specs.declared.fault.SchedFault.TheVariants as sched
use Rattle.do_weave.specs.declared.fault.WeaveFault.TheVariants as weaving
use Rattle.do_given.specs.declared.status.Status.TheVariants as answer
use Rattle.std.proofs.Common.{◌≡◌, ℕ, ◌+◌, List, [], ◌∷◌, ◌++◌, length, Option, inl, inr, subst}
use Rattle.std.proofs.Common.{sym}
use Rattle.do_base.specs.declared.outside.shelf.NamedFile.{NamedFile}
use Rattle.do_cli.specs.declared.command.Command.{Command}
use Rattle.do_machine.specs.declared.state.Seat.{Seat}
use Rattle.do_record.specs.declared.parts.Record.{Record}
use Rattle.do_sched.specs.declared.{fault.SchedFault.SchedFault, version.Version.Version}
use Rattle.do_sched.specs.declared.version.Version.TheVariants.{First, Second}
use Rattle.do_weave.specs.declared.fault.WeaveFault.{WeaveFault}
use Rattle.do_given.specs.declared.status.Status.{Status}
use Rattle.do_node.specs.Call.{Refuses}
use Rattle.do_given.specs.Files.{most_of_record, most_of_schedule, most_of_starts, most_of_world}
use Rattle.do_given.specs.Reading.{IsNoSchedule, IsNoWorld, NamesNone, RefusesWorld, SaysNoLines}
use Rattle.do_given.specs.{Reading.{Stops, told_of}, Serving.{IsNoText, RefusesServed, SaysNoText}}
use Rattle.do_plan.specs.{Form.Form, Plan.plan_form, Starts.starts_form}
use Rattle.do_node.specs.Records.{IsNoRecord, SayNoRecords, told_of_record}
use Rattle.do_node.specs.Weaving.{told_of_weaving}

-- a status that tells of a file, the output or memory, and of nothing that ran
abbrev pub IsTold : Status → Type 0
IsTold answer.Ok = ⊥
IsTold (answer.Usage word) = ⊥
IsTold (answer.TurnsSpent n) = ⊥
IsTold (answer.ChildFailed index end) = ⊥
IsTold answer.LinkFault = ⊥
IsTold status = Unit {0}

-- a fault of a schedule is told so
schedule_told : (fault : SchedFault) → IsTold (told_of fault)
schedule_told (sched.BadLine n) = tt
schedule_told (sched.TooMany n) = tt
schedule_told (sched.NoEnd n) = tt
schedule_told sched.Memory = tt

-- so is one of a record
record_told : (index : ℕ) (fault : SchedFault) → IsTold (told_of_record index fault)
record_told index (sched.BadLine n) = tt
record_told index (sched.TooMany n) = tt
record_told index (sched.NoEnd n) = tt
record_told index sched.Memory = tt

-- so is one of records that are woven
weaving_told : (fault : WeaveFault) → IsTold (told_of_weaving fault)
weaving_told (weaving.Contradiction index line) = tt
weaving_told weaving.Memory = tt

-- so is a file that is too long, or whose text is refused
file_told : (refuses : List ℕ → Status → Type 0) (told : Option (List NamedFile)) (name : List ℕ)
    (most : ℕ) (status : Status)
    → ((bytes : List ℕ) (st : Status) → refuses bytes st → IsTold st)
    → NamesNone refuses told name most status → IsTold status
file_told refuses told name most status all (inl long) = subst IsTold (sym long.tells) tt
file_told refuses told name most status all (inr text) = all text.bytes status text.is_read

-- so is a word that gives no world
world_told : (told : Option (List NamedFile)) (word : List ℕ) (status : Status)
    → RefusesWorld told word status → IsTold status
world_told told word status refused =
    file_told IsNoWorld told word most_of_world status
    (λ bytes st bad. subst IsTold (sym bad.tells) tt) refused.1

-- so is a file that is no schedule
lines_told : (version : Version) (told : Option (List NamedFile)) (name : List ℕ) (status : Status)
    → SaysNoLines version told name status → IsTold status
lines_told version told name status refused =
    file_told (IsNoSchedule version) told name most_of_schedule status
    (λ bytes st bad. subst IsTold (sym bad.tells) (schedule_told bad.fault)) refused

-- so is a file that has no lines of a form
text_told : {A : Type 0} (form : Form A) (told : Option (List NamedFile)) (name : List ℕ)
    (status : Status) → SaysNoText form told name status → IsTold status
text_told form told name status refused =
    file_told (IsNoText form) told name most_of_starts status
    (λ bytes st bad. subst IsTold (sym bad.tells) (schedule_told bad.fault)) refused

-- so is what gives no node of a world with its starts
served_told : (told : Option (List NamedFile)) (port : ℕ) (word name : List ℕ) (status : Status)
    → RefusesServed told port word name status → IsTold status
served_told told port word name status (inl (inl world)) = world_told told word status world
served_told told port word name status (inl (inr lacks)) = subst IsTold (sym lacks.tells) tt
served_told told port word name status (inr second) =
    text_told starts_form told name status second.refused

-- so are files of which one is no record
records_told : (told : Option (List NamedFile)) (seats : List Seat) (earlier : List Record)
    (names : List (List ℕ)) (status : Status)
    → SayNoRecords told seats earlier names status → IsTold status
records_told told seats earlier [] status refused = absurd refused
records_told told seats earlier (name ∷ names) status (inl first) =
    file_told (IsNoRecord seats earlier) told name most_of_record status
    (λ bytes st bad. subst IsTold (sym bad.tells) (record_told (length earlier + 1) bad.fault))
    first
records_told told seats earlier (name ∷ names) status (inr later) =
    records_told told seats (earlier ++ later.0 ∷ []) names status later.2

-- so is each refusal of a command
pub refusal_told : (told : Option (List NamedFile)) (command : Command) (status : Status)
    → Refuses told command status → IsTold status
refusal_told told (asked.Replay world schedule) status (inl first) =
    world_told told world status first
refusal_told told (asked.Replay world schedule) status (inr second) =
    lines_told Second told schedule status second.refused
refusal_told told (asked.Leaks world schedule) status (inl first) =
    world_told told world status first
refusal_told told (asked.Leaks world schedule) status (inr second) =
    lines_told Second told schedule status second.refused
refusal_told told (asked.Weave world names) status (inl first) = world_told told world status first
refusal_told told (asked.Weave world names) status (inr (inl second)) =
    records_told told second.world.nodes [] names status second.refuses
refusal_told told (asked.Weave world names) status (inr (inr third)) =
    subst IsTold (sym third.contradicts.tells) (weaving_told third.contradicts.fault)
refusal_told told (asked.Upgrade schedule) status refused =
    lines_told First told schedule status refused
refusal_told told (asked.Make number count) status refused = absurd refused
refusal_told told (asked.Node port world starts turns) status refused =
    served_told told port world starts status refused
refusal_told told (asked.Lab plan) status refused = text_told plan_form told plan status refused
refusal_told told asked.Help status refused = absurd refused
refusal_told told asked.Version status refused = absurd refused

-- what stops a command is not that all is well
pub stops_not_ok : (u f : Type 0) (told : Option (List NamedFile)) (command : Command)
    (status : Status) → Stops u f (Refuses told command) status → status ≡ answer.Ok → ⊥
stops_not_ok u f told command status stopped is =
    refusal_told told command answer.Ok (subst (Stops u f (Refuses told command)) is stopped)

-- nor is it a word
pub stops_no_word : (u f : Type 0) (told : Option (List NamedFile)) (command : Command)
    (status : Status) (word : ℕ) → Stops u f (Refuses told command) status
    → status ≡ answer.Usage word → ⊥
stops_no_word u f told command status word stopped is =
    refusal_told told command (answer.Usage word)
    (subst (Stops u f (Refuses told command)) is stopped)
