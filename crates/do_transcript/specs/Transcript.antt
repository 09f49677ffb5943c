-- The transcript of a schedule from a state on.
use Rattle.std.specs.Prelude.{List, ℕ}
use Rattle.do_class.specs.Class.{Class}
use Rattle.do_lines.specs.Transcript.{transcript}
use Rattle.do_machine.specs.{check.Blocks.blocks, declared.state.State.State, run.Run.Acting}
use Rattle.do_sched.specs.declared.line.Line.{Line}

-- the transcript of these lines, from a state on, of classes whose objects act so
unfoldable pub transcript_from : List Class → Acting → State → List Line → List ℕ
transcript_from table act S lines = transcript table (blocks table act S lines)
