-- What obeying a command comes to.
use Rattle.do_given.specs.declared.status.Status.TheVariants as answer
use Rattle.std.proofs.Common.{◌≡◌, ◌⊎◌, ℕ, List, Option, Some, None, Result, Ok, Err, inl, inr, []}
use Rattle.std.proofs.Common.{◌∷◌, ◌++◌, ap, subst, refl}
use Rattle.std.specs.{Prelude.{OnOk, IfErr, IsErrOf, IsOk}, Option.IsSomeAnd}
use Rattle.do_base.specs.outside.{Bytes.{with_more, HasWritten}, Causes.Rose, Files.file_named}
use Rattle.do_base.specs.declared.outside.shelf.NamedFile.{NamedFile}
use Rattle.do_cli.specs.declared.command.Command.{Command}
use Rattle.do_cli.specs.declared.command.Command.TheVariants.{Replay, Leaks, Weave, Upgrade, Make}
use Rattle.do_cli.specs.declared.command.Command.TheVariants.{Node, Lab, Help, Version}
use Rattle.do_machine.specs.declared.state.Seat.{Seat}
use Rattle.do_record.specs.declared.parts.Record.{Record}
use Rattle.do_world.specs.{Builtin.builtin_world, declared.world.World.World}
use Rattle.do_given.specs.declared.status.Status.{Status}
use Rattle.do_node.specs.{Call.{HasUnread, Obeys, Refuses, Writes}, Running.Counts}
use Rattle.do_given.specs.{Serving.GivesServed, declared.served.Served.Served}
use Rattle.do_given.{specs.Files.{IsFile, IsUnread}, proofs.Stopping.stops_as}
use Rattle.do_given.specs.Reading.{GivesScheduled, GivesWorld, HasUnreadScheduled, OrUnread, Stops}
use Rattle.do_given.specs.declared.scheduled.Scheduled.{Scheduled}
use Rattle.do_node.specs.Records.{AnyUnread, SayRecords}

-- a file that is told was read, unless the count of faults rose
told_is_read : (told : Option (List NamedFile)) (files : List NamedFile) (before now : ℕ)
    (name bytes : List ℕ) (most : ℕ) → told ≡ Some files → IsFile (Some files) name most bytes
    → ¬ Rose before now → IsUnread told before now name → ⊥
told_is_read told files before now name bytes most is file calm (inl rose) = calm rose
told_is_read told files before now name bytes most is file calm (inr none) =
    let found : file_named name files ≡ Some bytes = file.named files refl in
    let lacks : file_named name files ≡ None =
    subst (λ t. IsSomeAnd t (λ fs. file_named name fs ≡ None)) is none in
    cc

-- so was the file of a world that is told
world_is_read : (told : Option (List NamedFile)) (files : List NamedFile) (before now : ℕ)
    (word : List ℕ) (world : World) → told ≡ Some files → GivesWorld (Some files) word world
    → ¬ Rose before now → builtin_world word ≡ None → IsUnread told before now word → ⊥
world_is_read told files before now word world is (inl named) calm none unread = cc
world_is_read told files before now word world is (inr said) calm none unread =
    told_is_read told files before now word _ _ is said.1.file calm unread

-- so were both, where a world and a schedule are told
scheduled_is_read : (told : Option (List NamedFile)) (files : List NamedFile) (before now : ℕ)
    (word name : List ℕ) (given : Scheduled) → told ≡ Some files
    → GivesScheduled (Some files) word name given → ¬ Rose before now
    → HasUnreadScheduled told before now word name → ⊥
scheduled_is_read told files before now word name given is gives calm (inl unread) =
    world_is_read told files before now word given.world is gives.gives calm unread.0 unread.1
scheduled_is_read told files before now word name given is gives calm (inr unread) =
    told_is_read told files before now name _ _ is gives.says.file calm unread

-- so were both, where a node and its starts are told
served_is_read : (told : Option (List NamedFile)) (files : List NamedFile) (before now port : ℕ)
    (word name : List ℕ) (given : Served) → told ≡ Some files
    → GivesServed (Some files) port word name given → ¬ Rose before now
    → HasUnreadScheduled told before now word name → ⊥
served_is_read told files before now port word name given is gives calm (inl unread) =
    world_is_read told files before now word given.place.world is gives.seat.gives calm unread.0
    unread.1
served_is_read told files before now port word name given is gives calm (inr unread) =
    told_is_read told files before now name _ _ is gives.says.file calm unread

-- so were the files of records that are told
records_are_read : (told : Option (List NamedFile)) (files : List NamedFile) (before now : ℕ)
    (seats : List Seat) (earlier : List Record) (names : List (List ℕ)) (records : List Record)
    → told ≡ Some files → SayRecords (Some files) seats earlier names records
    → ¬ Rose before now → AnyUnread told before now names → ⊥
records_are_read told files before now seats earlier [] records is say calm unread = unread
records_are_read told files before now seats earlier (name ∷ names) records is say calm
    (inl unread) = told_is_read told files before now name _ _ is say.1.file calm unread
records_are_read told files before now seats earlier (name ∷ names) records is say calm
    (inr unread) =
    records_are_read told files before now seats (earlier ++ say.0 ∷ []) names records is say.2
    calm unread

-- where all files of a command are told, none was unread, unless the count of faults rose
pub all_are_read : (told : Option (List NamedFile)) (files : List NamedFile) (before now : ℕ)
    (command : Command) (text : List ℕ) → told ≡ Some files → Writes (Some files) command text
    → ¬ Rose before now → HasUnread told before now command → ⊥
all_are_read told files before now (Replay world schedule) text is writes calm unread =
    scheduled_is_read told files before now world schedule writes.given is writes.gives calm unread
all_are_read told files before now (Leaks world schedule) text is writes calm unread =
    scheduled_is_read told files before now world schedule writes.given is writes.gives calm unread
all_are_read told files before now (Weave world names) text is writes calm (inr unread) =
    records_are_read told files before now writes.world.nodes [] names writes.records is
    writes.given.say calm unread
all_are_read told files before now (Weave world names) text is writes calm (inl unread) =
    world_is_read told files before now world writes.world is writes.given.gives calm unread.0
    unread.1
all_are_read told files before now (Upgrade schedule) text is writes calm unread =
    told_is_read told files before now schedule _ _ is writes.file calm unread
all_are_read told files before now (Make number count) text is writes calm unread = unread
all_are_read told files before now (Node port world starts turns) text is writes calm unread =
    served_is_read told files before now port world starts writes.given is writes.gives calm unread
all_are_read told files before now (Lab plan) text is writes calm unread =
    told_is_read told files before now plan _ _ is writes.says.file calm unread
all_are_read told files before now Help text is writes calm unread = unread
all_are_read told files before now Version text is writes calm unread = unread

-- a command whose text is at hand is obeyed by writing it
pub obeys_writing : (told : Option (List NamedFile)) (command : Command) (reads puts : Counts)
    (old new : Option (List ℕ)) (text : List ℕ) (result : Result Unit Status)
    → Writes told command text
    → ((files : List NamedFile) (status : Status) → told ≡ Some files
    → Refuses (Some files) command status → ⊥)
    → OnOk result (new ≡ with_more old text) → HasWritten old new text
    → IfErr result (Stops ⊥ (Rose puts.before puts.now) (λ _. ⊥))
    → Obeys told command reads old new puts result
obeys_writing told command reads puts old new text (Ok u) writes good whole prefix stopped =
    record {
      whole = record { text = text; writes = writes; written = whole };
      stopped = tt;
      prefix = inr (record { text = text; writes = writes; written = prefix });
      nothing = tt;
      refuses = λ files status is refused. absurd (good files status is refused);
      complete = λ files t is all calm quiet. inl refl;
    }
obeys_writing told command reads puts old new text (Err answer.Memory) writes good whole prefix
    stopped = record {
      whole = tt;
      stopped = tt;
      prefix = inr (record { text = text; writes = writes; written = prefix });
      nothing = λ none. absurd none;
      refuses = λ files status is refused. absurd (good files status is refused);
      complete = λ files t is all calm quiet. inr refl;
    }
obeys_writing told command reads puts old new text (Err answer.WriteFault) writes good whole prefix
    stopped = record {
      whole = tt;
      stopped = (stopped, record { text = text; writes = writes });
      prefix = inr (record { text = text; writes = writes; written = prefix });
      nothing = λ none. absurd none;
      refuses = λ files status is refused. absurd (good files status is refused);
      complete = λ files t is all calm quiet. absurd (quiet stopped);
    }
obeys_writing told command reads puts old new text (Err answer.ReadFault) writes good whole prefix
    stopped = absurd stopped
obeys_writing told command reads puts old new text (Err answer.Ok) writes good whole prefix
    stopped = absurd stopped
obeys_writing told command reads puts old new text (Err (answer.Usage word)) writes good whole
    prefix stopped = absurd stopped
obeys_writing told command reads puts old new text (Err (answer.TooLong read limit)) writes good
    whole prefix stopped = absurd stopped
obeys_writing told command reads puts old new text (Err (answer.BadWorld fault)) writes good whole
    prefix stopped = absurd stopped
obeys_writing told command reads puts old new text (Err (answer.BadSchedule line)) writes good
    whole prefix stopped = absurd stopped
obeys_writing told command reads puts old new text (Err (answer.TurnsSpent turns)) writes good
    whole prefix stopped = absurd stopped
obeys_writing told command reads puts old new text (Err (answer.ChildFailed index end)) writes good
    whole prefix stopped = absurd stopped
obeys_writing told command reads puts old new text (Err answer.LinkFault) writes good whole prefix
    stopped = absurd stopped
obeys_writing told command reads puts old new text (Err (answer.BadRecord index line)) writes good
    whole prefix stopped = absurd stopped
obeys_writing told command reads puts old new text (Err (answer.Contradiction index line)) writes
    good whole prefix stopped = absurd stopped

-- a command stops before anything is written
pub obeys_stopping : (told : Option (List NamedFile)) (command : Command) (reads puts : Counts)
    (old : Option (List ℕ)) (status : Status)
    → Stops (HasUnread told reads.before reads.now command) ⊥ (Refuses told command) status
    → ((files : List NamedFile) (st : Status) → told ≡ Some files
    → Refuses (Some files) command st → OrUnread {A = Unit} (Err st) (Err status))
    → ((files : List NamedFile) (text : List ℕ) → told ≡ Some files
    → Writes (Some files) command text → (status ≡ answer.ReadFault) ⊎ (status ≡ answer.Memory))
    → Obeys told command reads old old puts (Err status)
obeys_stopping told command reads puts old status stopped refuses gives = record {
  whole = tt;
  stopped = stops_as {r = Refuses told command} {s = Refuses told command} (λ unread. unread)
      (λ none. absurd none) (λ st refused. refused) status stopped;
  prefix = inl refl;
  nothing = λ none. refl;
  refuses = refuses;
  complete = λ files text is writes calm quiet.
      completed files text is writes calm (gives files text is writes);
}
  where
    completed : (files : List NamedFile) (text : List ℕ) → told ≡ Some files
        → Writes (Some files) command text → ¬ Rose reads.before reads.now
        → (status ≡ answer.ReadFault) ⊎ (status ≡ answer.Memory)
        → IsOk {T = Unit} (Err status) ⊎ IsErrOf {T = Unit} (Err status) answer.Memory
    completed files text is writes calm (inl unread) =
        let has : HasUnread told reads.before reads.now command =
        subst (λ s. Stops (HasUnread told reads.before reads.now command) ⊥ (Refuses told command)
        s) unread stopped in
        absurd (all_are_read told files _ _ command text is writes calm has)
    completed files text is writes calm (inr memory) = inr (ap (λ s. Err s) memory)
