-- What the records of a world's nodes are woven to.
use Rattle.do_weave.specs.declared.fault.WeaveFault.TheVariants as weaving
use Rattle.std.specs.Prelude.{◌≡◌, ℕ, ◌⊎◌, List, [], Option, None, Ok, Err}
use Rattle.do_base.specs.declared.outside.shelf.NamedFile.{NamedFile}
use Rattle.do_machine.specs.World.{opening}
use Rattle.do_native.specs.Acts.{native_act}
use Rattle.do_record.specs.declared.parts.Record.{Record}
use Rattle.do_sched.specs.{Spelling.spelling, declared.line.Line.Line}
use Rattle.do_sched.specs.declared.version.Version.TheVariants.{Second}
use Rattle.do_weave.specs.{Rules.Rules, Weaving.{Woven, woven}}
use Rattle.do_weave.specs.declared.fault.WeaveFault.{WeaveFault}
use Rattle.do_world.specs.{Builtin.builtin_world, declared.world.World.World}
use Rattle.do_given.specs.declared.status.Status.{Status, TheVariants.{Contradiction, Memory}}
use Rattle.do_given.specs.{Files.IsUnread, Reading.{GivesWorld, RefusesWorld}}
use Rattle.do_node.specs.Records.{AnyUnread, SayNoRecords, SayRecords}
use Rattle.do_given.specs.Parts.{behaviour_of}

-- what a world goes by
abbrev pub rules_of : World → Rules
rules_of w = record { table = w.table; act = native_act (behaviour_of w) }

-- what records are woven to over a world, from its opening on
unfoldable pub world_woven : World → List Record → Woven
world_woven w records = woven (rules_of w) (opening w.table w.nodes) records

-- what is told of records that are not woven
abbrev pub told_of_weaving : WeaveFault → Status
told_of_weaving (weaving.Contradiction index line) = Contradiction index line
told_of_weaving weaving.Memory = Memory

-- the text is the schedule that records are woven to over a world
pub record WeavesTo (world : World) (records : List Record) (text : List ℕ) : Type 0 where
  pub lines : List Line
  pub is_woven : world_woven world records ≡ Ok lines
  pub spelled : text ≡ spelling Second lines

-- records contradict over a world
pub record Contradicts (world : World) (records : List Record) (status : Status) : Type 0 where
  pub fault : WeaveFault
  pub is_fault : world_woven world records ≡ Err fault
  pub tells : status ≡ told_of_weaving fault

-- a word and names of files give a world and records of its nodes
pub record GivesRecords (told : Option (List NamedFile)) (word : List ℕ) (names : List (List ℕ))
    (world : World) (records : List Record) : Type 0 where
  pub gives : GivesWorld told word world
  pub say : SayRecords told world.nodes [] names records

-- the text is the schedule that the records in files are woven to over a world
pub record IsWoven (told : Option (List NamedFile)) (word : List ℕ) (names : List (List ℕ))
    (text : List ℕ) : Type 0 where
  pub world : World
  pub records : List Record
  pub given : GivesRecords told word names world records
  pub weaves : WeavesTo world records text

-- a world is given, and one of the files is no record behind those before
pub record RefusesRecords (told : Option (List NamedFile)) (word : List ℕ) (names : List (List ℕ))
    (status : Status) : Type 0 where
  pub world : World
  pub gives : GivesWorld told word world
  pub refuses : SayNoRecords told world.nodes [] names status

-- a world and records are given that contradict
pub record RefusesWoven (told : Option (List NamedFile)) (word : List ℕ) (names : List (List ℕ))
    (status : Status) : Type 0 where
  pub world : World
  pub records : List Record
  pub given : GivesRecords told word names world records
  pub contradicts : Contradicts world records status

-- why records are not woven over a world: the first word that gives nothing, or a contradiction
abbrev pub RefusesWeaving : Option (List NamedFile) → List ℕ → List (List ℕ) → Status → Type 0
RefusesWeaving told word names status = RefusesWorld told word status
    ⊎ RefusesRecords told word names status ⊎ RefusesWoven told word names status

-- the file of a world, or one of the records, could not be read
abbrev pub HasUnreadPart : Option (List NamedFile) → ℕ → ℕ → List ℕ → List (List ℕ) → Type 0
HasUnreadPart told before now word names =
    ((builtin_world word ≡ None) × IsUnread told before now word)
    ⊎ AnyUnread told before now names
