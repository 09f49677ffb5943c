-- Whether what records say can be done in some order.
use Rattle.std.specs.Prelude.{List, Option, map, ℕ, ◌≡◌}
use Rattle.do_base.specs.declared.outside.shelf.NamedFile.{NamedFile}
use Rattle.do_cli.specs.declared.command.Command.{Command, TheVariants.Weave}
use Rattle.do_exchanged.specs.Runs.{Exchanged, Ran, record_of_run}
use Rattle.do_given.specs.{Parts.behaviour_of, declared.status.Status.Status}
use Rattle.do_given.specs.declared.status.Status.TheVariants.{BadRecord, Contradiction}
use Rattle.do_machine.specs.World.{opening}
use Rattle.do_native.specs.Acts.{native_act}
use Rattle.do_record.specs.declared.parts.Record.{Record}
use Rattle.do_weave.specs.Orders.{CanBeDone}
use Rattle.do_world.specs.declared.world.World.{World}
use Rattle.do_node.specs.{ServedFiles.AreNotServed, Weaving.{GivesRecords, rules_of}}

-- A word and names of files give a world and records, and some order of all inputs that keeps each
-- record's own does what the records say
pub record HaveOrder (told : Option (List NamedFile)) (word : List ℕ) (names : List (List ℕ)) :
    Type 0 where
  pub world : World
  pub records : List Record
  pub given : GivesRecords told word names world records
  pub order : CanBeDone (rules_of world) (opening world.table world.nodes) records

-- the nodes of a world exchanged their bytes unchanged, and recorded this
pub record Recorded (w : World) (records : List Record) : Type 0 where
  pub runs : List Ran
  pub exchanged : Exchanged w.table (native_act (behaviour_of w)) w.nodes runs
  pub are : map (record_of_run w.table (native_act (behaviour_of w)) w.nodes) runs ≡ records

-- they give a world and records, and no such order does
pub record HaveNoOrder (told : Option (List NamedFile)) (word : List ℕ) (names : List (List ℕ)) :
    Type 0 where
  pub world : World
  pub records : List Record
  pub given : GivesRecords told word names world records
  pub none : CanBeDone (rules_of world) (opening world.table world.nodes) records → ⊥

-- they give a world and records that are not those of nodes that exchanged their bytes unchanged
pub record AreAltered (told : Option (List NamedFile)) (word : List ℕ) (names : List (List ℕ)) :
    Type 0 where
  pub world : World
  pub records : List Record
  pub given : GivesRecords told word names world records
  pub altered : Recorded world records → ⊥

-- What an answer of `weave` tells of its files. Where it is a contradiction, the records are such.
-- Where a file is no record, the files up to it are not all as served nodes wrote them
abbrev pub TellsAltered : Option (List NamedFile) → List ℕ → List (List ℕ) → Status → Type 0
TellsAltered told word names (Contradiction index line) = AreAltered told word names
TellsAltered told word names (BadRecord index line) = AreNotServed told word names index
TellsAltered told word names status = Unit {0}

-- so it is of the answer to a command
abbrev pub AnswersAltered : Option (List NamedFile) → Status → Command → Type 0
AnswersAltered told status (Weave world names) = TellsAltered told world names status
AnswersAltered told status command = Unit {0}
