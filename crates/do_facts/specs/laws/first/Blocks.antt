-- A schedule's lines, each with what it came to on the machine of version 1.
use Rattle.std.specs.Prelude.{List, [], ◌∷◌}
use Rattle.do_base.specs.declared.events.event.Event.{Event}
use Rattle.do_class.specs.Class.{Class}
use Rattle.do_sched.specs.declared.line.Line.{Line}
use Rattle.do_trace.specs.Block.{Block}
use Rattle.do_machine.specs.{declared.state.{State.State, Stepped.Stepped}, Commit.skipped}
use Rattle.do_machine.specs.check.Blocks.{block, events_of, followed}
use Rattle.do_facts.specs.laws.first.Step.{step_1}
use Rattle.do_machine.specs.run.Run.{Acting}

-- events one after another, behind what was done before
abbrev pub steps_1 : List Class → Acting → List Event → Stepped → Stepped
steps_1 table act [] s = s
steps_1 table act (e ∷ es) s = steps_1 table act es (followed s (step_1 table act s.state e))

-- what a line does: its events one after another
abbrev pub line_step_1 : List Class → Acting → State → Line → Stepped
line_step_1 table act S line = steps_1 table act (events_of line) (skipped S)

-- the lines with what each came to, one after another
abbrev pub blocks_1 : List Class → Acting → State → List Line → List (Block Line)
blocks_1 table act S [] = []
blocks_1 table act S (l ∷ ls) =
    let s : Stepped = line_step_1 table act S l in
    block l s ∷ blocks_1 table act s.state ls
