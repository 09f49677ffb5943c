-- What a schedule comes to over a world: as a transcript, in numbers, and what is lost then.
use Rattle.std.specs.Prelude.{ℕ, List}
use Rattle.do_sched.specs.declared.line.Line.{Line}
use Rattle.do_class.specs.Class.{Class}
use Rattle.do_machine.specs.{World.opening, declared.state.State.State, run.Run.Acting}
use Rattle.do_native.specs.Acts.{native_act}
use Rattle.do_given.specs.Parts.{behaviour_of}
use Rattle.do_generate.specs.Generated.{generated}
use Rattle.do_world.specs.{Mesh.mesh_world, declared.world.World.World}
use Rattle.do_transcript.specs.Transcript.{transcript_from}
use Rattle.do_lost.specs.Text.{lost_text}
use Rattle.do_make.specs.{Summary.summary_of, Text.summary_text}
use Rattle.do_network.specs.{Net.net_opening, Wired.net_blocks}
use Rattle.do_replay.specs.Replayed.{state_after, wired_from}

-- the transcript of these lines over a world, from its opening on
unfoldable pub world_transcript : World → List Line → List ℕ
world_transcript w lines =
    transcript_from w.table (native_act (behaviour_of w)) (opening w.table w.nodes) lines

-- the transcript of these lines over the network of a world, with what was sent in each
unfoldable pub world_wired : World → List Line → List ℕ
world_wired w lines =
    wired_from w.table (native_act (behaviour_of w)) (net_opening w.table w.nodes) lines

-- the summary of these lines over the network of a world
unfoldable pub world_summary : World → List Line → List ℕ
world_summary w lines = summary_text (summary_of
    (net_blocks w.table (native_act (behaviour_of w)) (net_opening w.table w.nodes) lines))

-- the summary of the lines that a number generates, over the network of the mesh
abbrev pub made_text : ℕ → ℕ → List ℕ
made_text number count = world_summary mesh_world (generated count number)

-- what nothing can reach after these lines, of classes whose objects act so
unfoldable pub lost_after : List Class → Acting → State → List Line → List ℕ
lost_after table act S lines = lost_text table (state_after table act S lines)

-- what nothing can reach after these lines over a world
unfoldable pub world_lost : World → List Line → List ℕ
world_lost w lines =
    lost_after w.table (native_act (behaviour_of w)) (opening w.table w.nodes) lines
