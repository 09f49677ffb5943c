-- What a command writes, and why it is refused.
use Rattle.do_given.specs.declared.status.Status.TheVariants as answer
use Rattle.std.specs.Prelude.{◌≡◌, ℕ, ◌⊎◌, List, Option, Some, None, Result, OnOk, IfErr, IsOk}
use Rattle.std.specs.Prelude.{IsErrOf}
use Rattle.do_base.specs.{outside.Causes.Rose, declared.outside.shelf.NamedFile.NamedFile}
use Rattle.do_cli.specs.{Help.{help_text, version_text}, declared.command.Command.Command}
use Rattle.do_cli.specs.declared.command.Command.TheVariants.{Replay, Leaks, Weave, Upgrade, Make}
use Rattle.do_cli.specs.declared.command.Command.TheVariants.{Node, Lab, Help, Version}
use Rattle.do_sched.specs.declared.{line.Line.Line, version.Version.TheVariants.First}
use Rattle.do_world.specs.declared.world.World.{World}
use Rattle.do_given.specs.declared.{scheduled.Scheduled.Scheduled, status.Status.Status}
use Rattle.do_given.specs.{Files.IsUnread, Reading.{GivesScheduled, HasUnreadScheduled, IsUpgrade}}
use Rattle.do_given.specs.Reading.{RefusesScheduled, SaysNoLines, Stops}
use Rattle.do_given.specs.Serving.{RefusesServed, SaysNoText}
use Rattle.do_plan.specs.Plan.{plan_form}
use Rattle.do_node.specs.{Added.{AddsAll, AddsFirst}, Replaying.{made_text, world_lost}}
use Rattle.do_node.specs.{Replaying.world_wired, Running.{Counts, EndsWith, IsRun, IsRunEnd}}
use Rattle.do_node.specs.{Running.IsServed, Weaving.{HasUnreadPart, IsWoven, RefusesWeaving}}

-- the text is what a schedule comes to over a world
pub record IsOver (text_of : World → List Line → List ℕ) (told : Option (List NamedFile))
    (word name text : List ℕ) : Type 0 where
  pub given : Scheduled
  pub gives : GivesScheduled told word name given
  pub is : text ≡ text_of given.world given.lines

-- the text is the transcript of a schedule over the network of a world, with what was sent
abbrev pub IsReplay : Option (List NamedFile) → List ℕ → List ℕ → List ℕ → Type 0
IsReplay = IsOver world_wired

-- the text is what nothing can reach after a schedule over a world
abbrev pub IsLost : Option (List NamedFile) → List ℕ → List ℕ → List ℕ → Type 0
IsLost = IsOver world_lost

-- what a command writes, where the shelf tells such files
abbrev pub Writes : Option (List NamedFile) → Command → List ℕ → Type 0
Writes told (Replay world schedule) text = IsReplay told world schedule text
Writes told (Leaks world schedule) text = IsLost told world schedule text
Writes told (Weave world files) text = IsWoven told world files text
Writes told (Upgrade schedule) text = IsUpgrade told schedule text
Writes told (Make number count) text = text ≡ made_text number count
Writes told (Node port world starts turns) text = IsServed told port world starts turns text
Writes told (Lab plan) text = IsRun told plan text
Writes told Help text = text ≡ help_text
Writes told Version text = text ≡ version_text

-- why a command is refused, where the shelf tells such files: the first of its words that gives
-- nothing
abbrev pub Refuses : Option (List NamedFile) → Command → Status → Type 0
Refuses told (Replay world schedule) status = RefusesScheduled told world schedule status
Refuses told (Leaks world schedule) status = RefusesScheduled told world schedule status
Refuses told (Weave world files) status = RefusesWeaving told world files status
Refuses told (Upgrade schedule) status = SaysNoLines First told schedule status
Refuses told (Node port world starts turns) status = RefusesServed told port world starts status
Refuses told (Lab plan) status = SaysNoText plan_form told plan status
Refuses told command status = ⊥

-- a file that a command reads could not be read
abbrev pub HasUnread : Option (List NamedFile) → ℕ → ℕ → Command → Type 0
HasUnread told before now (Replay world schedule) =
    HasUnreadScheduled told before now world schedule
HasUnread told before now (Leaks world schedule) =
    HasUnreadScheduled told before now world schedule
HasUnread told before now (Weave world files) = HasUnreadPart told before now world files
HasUnread told before now (Upgrade schedule) = IsUnread told before now schedule
HasUnread told before now (Node port world starts turns) =
    HasUnreadScheduled told before now world starts
HasUnread told before now (Lab plan) = IsUnread told before now plan
HasUnread told before now command = ⊥

-- all files of a command were read and say what they are to say
pub record CanWrite (told : Option (List NamedFile)) (command : Command) : Type 0 where
  pub text : List ℕ
  pub writes : Writes told command text

-- what a command writes was added to a sink that tells what it holds
abbrev pub WritesAll : Option (List NamedFile) → Command → Option (List ℕ) → Option (List ℕ)
    → Type 0
WritesAll told command = AddsAll (Writes told command)

-- the first bytes of what a command writes were added
abbrev pub WritesSome : Option (List NamedFile) → Command → Option (List ℕ) → Option (List ℕ)
    → Type 0
WritesSome told command = AddsFirst (Writes told command)

-- the answers that say what is wrong with a file
abbrev pub IsRefusal : Status → Type 0
IsRefusal (answer.TooLong read limit) = Unit {0}
IsRefusal (answer.BadWorld fault) = Unit {0}
IsRefusal (answer.BadSchedule line) = Unit {0}
IsRefusal (answer.BadRecord index line) = Unit {0}
IsRefusal (answer.Contradiction index line) = Unit {0}
IsRefusal status = ⊥

-- the answers before which nothing is written
abbrev pub WritesNothing : Status → Type 0
WritesNothing (answer.Usage word) = Unit {0}
WritesNothing answer.ReadFault = Unit {0}
WritesNothing answer.LinkFault = Unit {0}
WritesNothing status = IsRefusal status

-- what a command that runs nothing comes to over a shelf, whose faults are counted, and a sink, of
-- which it is told what it held and holds, and its faults
pub record Obeys (told : Option (List NamedFile)) (command : Command) (reads : Counts)
    (old new : Option (List ℕ)) (puts : Counts) (result : Result Unit Status) : Type 0 where
  pub whole : OnOk result (WritesAll told command old new)
  pub stopped : IfErr result (Stops (HasUnread told reads.before reads.now command)
      (Rose puts.before puts.now × CanWrite told command) (Refuses told command))
  pub prefix : (new ≡ old) ⊎ WritesSome told command old new
  pub nothing : IfErr result (λ status. WritesNothing status → new ≡ old)
  pub refuses : (files : List NamedFile) (status : Status) → told ≡ Some files
      → Refuses (Some files) command status
      → IsErrOf result status ⊎ IsErrOf result answer.ReadFault ⊎ IsErrOf result answer.Memory
  pub complete : (files : List NamedFile) (text : List ℕ) → told ≡ Some files
      → Writes (Some files) command text
      → ¬ Rose reads.before reads.now → ¬ Rose puts.before puts.now
      → IsOk result ⊎ IsErrOf result answer.Memory

-- what any command comes to, as a status tells it
pub record Comes (told : Option (List NamedFile)) (command : Command) (reads : Counts)
    (old new : Option (List ℕ)) (puts : Counts) (status : Status) : Type 0 where
  pub no_word : (word : ℕ) → status ≡ answer.Usage word → ⊥
  pub unread : status ≡ answer.ReadFault → HasUnread told reads.before reads.now command
  pub refused : IsRefusal status → Refuses told command status
  pub refuses : (files : List NamedFile) (st : Status) → told ≡ Some files
      → Refuses (Some files) command st
      → (status ≡ st) ⊎ (status ≡ answer.ReadFault) ⊎ (status ≡ answer.Memory)
  pub write_fault : status ≡ answer.WriteFault → Rose puts.before puts.now × CanWrite told command
  pub ends : IsRunEnd status → EndsWith status command
  pub whole : status ≡ answer.Ok → WritesAll told command old new
  pub prefix : (new ≡ old) ⊎ WritesSome told command old new
  pub nothing : WritesNothing status → new ≡ old
  pub complete : (files : List NamedFile) (text : List ℕ) → told ≡ Some files
      → Writes (Some files) command text
      → ¬ Rose reads.before reads.now → ¬ Rose puts.before puts.now
      → EndsWith status command ⊎ (status ≡ answer.Memory)
