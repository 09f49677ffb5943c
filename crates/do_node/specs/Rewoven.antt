-- What is known of a schedule that records are woven to.
use Rattle.std.specs.Prelude.{ℕ, List, Option}
use Rattle.do_base.specs.declared.outside.shelf.NamedFile.{NamedFile}
use Rattle.do_machine.specs.World.{opening}
use Rattle.do_record.specs.declared.parts.Record.{Record}
use Rattle.do_sched.specs.{Schedule.IsSchedule, declared.line.Line.Line}
use Rattle.do_weave.specs.Laws.{GivesAgain}
use Rattle.do_world.specs.declared.world.World.{World}
use Rattle.do_node.specs.Weaving.{GivesRecords, rules_of}

-- The text is a schedule that is read as these lines, and the transcript of these over the world
-- gives again each record that the files say.
pub record GivesBack (told : Option (List NamedFile)) (word : List ℕ) (names : List (List ℕ))
    (text : List ℕ) : Type 0 where
  pub world : World
  pub records : List Record
  pub given : GivesRecords told word names world records
  pub lines : List Line
  pub schedule : IsSchedule text lines
  pub again : GivesAgain (rules_of world) (opening world.table world.nodes) records lines
