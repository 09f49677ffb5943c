-- A schedule's lines, each with what it came to.
use Rattle.do_base.specs.declared.events.event.Event.TheVariants as events
use Rattle.do_sched.specs.declared.line.Line.TheVariants as lines
use Rattle.std.specs.Prelude.{List, None, Option, Some, [], replicate, ◌++◌, ◌||◌, ◌∷◌}
use Rattle.do_machine.specs.Step.{step}
use Rattle.do_base.specs.declared.events.event.Event.{Event}
use Rattle.do_class.specs.Class.{Class}
use Rattle.do_machine.specs.declared.state.{State.State, Stepped.Stepped}
use Rattle.do_trace.specs.declared.outcome.Snapshot.{Snapshot}
use Rattle.do_sched.specs.declared.line.Line.{Line}
use Rattle.do_trace.specs.Block.{Block}
use Rattle.do_machine.specs.{Commit.skipped, run.Run.Acting, check.Snapshot.snapshot}

-- one event after another: enabled where one of the two was, and what both showed
abbrev pub followed : Stepped → Stepped → Stepped
followed a b = record {
  state = b.state;
  outcome = record {
    enabled = a.outcome.enabled || b.outcome.enabled;
    shown = a.outcome.shown ++ b.outcome.shown;
  };
}

-- events one after another, behind what was done before
abbrev pub steps : List Class → Acting → List Event → Stepped → Stepped
steps table act [] s = s
steps table act (e ∷ es) s = steps table act es (followed s (step table act s.state e))

-- the events of a line, in order
abbrev pub events_of : Line → List Event
events_of (lines.Start port selector values) = events.Start port selector values ∷ []
events_of (lines.Run port count) = replicate count (events.Run port)
events_of (lines.Take port from) = events.Take port from ∷ []
events_of (lines.Close port peer) = events.Close port peer ∷ []
events_of (lines.Lose from to after) = events.Lose from to after ∷ []
events_of (lines.Timeout port) = events.Timeout port ∷ []
events_of lines.Check = events.Check ∷ []

-- what a line does: its events one after another
abbrev pub line_step : List Class → Acting → State → Line → Stepped
line_step table act S line = steps table act (events_of line) (skipped S)

-- a check lists the state, and no other line lists anything
abbrev pub listed_at : State → Line → Option Snapshot
listed_at S lines.Check = Some (snapshot S)
listed_at S _ = None

-- a line with what it came to
abbrev pub block : Line → Stepped → Block Line
block line s = record { line = line; outcome = s.outcome; listed = listed_at s.state line }

-- the lines with what each came to, one after another
abbrev pub blocks : List Class → Acting → State → List Line → List (Block Line)
blocks table act S [] = []
blocks table act S (l ∷ ls) =
    let s : Stepped = line_step table act S l in
    block l s ∷ blocks table act s.state ls
