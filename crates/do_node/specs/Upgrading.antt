-- What is replayed of an upgraded schedule.
use Rattle.std.specs.Prelude.{◌≡◌, ℕ, List, Option}
use Rattle.do_base.specs.declared.outside.shelf.NamedFile.{NamedFile}
use Rattle.do_sched.specs.{Schedule.{IsSchedule, IsScheduleOf}, declared.line.Line.Line}
use Rattle.do_sched.specs.declared.version.Version.TheVariants.{First}
use Rattle.do_machine.specs.World.{opening}
use Rattle.do_facts.specs.laws.first.Blocks.{blocks_1}
use Rattle.do_native.specs.Acts.{native_act}
use Rattle.do_world.specs.declared.world.World.{World}
use Rattle.do_lines.specs.Transcript.{transcript}
use Rattle.do_given.specs.{Files.most_of_schedule, Reading.HasText, Parts.behaviour_of}
use Rattle.do_node.specs.Replaying.{world_transcript}

-- the transcript of these lines over a world by the rules of the first version
unfoldable pub first_transcript : World → List Line → List ℕ
first_transcript w lines =
    transcript w.table
    (blocks_1 w.table (native_act (behaviour_of w)) (opening w.table w.nodes) lines)

-- the text is a schedule that is replayed, over any world, with the transcript that the rules of
-- the first version give for the bytes, which are a schedule of that version
pub record ReplaysAlike (bytes text : List ℕ) : Type 0 where
  pub lines : List Line
  pub first : IsScheduleOf First bytes lines
  pub second : IsSchedule text lines
  pub same : (world : World) → world_transcript world lines ≡ first_transcript world lines

-- the file of a name has a schedule of the first version, and the text is replayed with its
-- transcripts
abbrev pub IsReplayedAlike : Option (List NamedFile) → List ℕ → List ℕ → Type 0
IsReplayedAlike told name text = HasText ReplaysAlike told name most_of_schedule text
