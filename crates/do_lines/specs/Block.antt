-- How a line of a schedule is written with what it showed.
use Rattle.std.specs.Prelude.{ℕ, List, [], ◌∷◌, ◌++◌, map, codes, if◌then◌else◌, Option, Some, None}
use Rattle.do_base.specs.declared.events.shown.Shown.{Shown}
use Rattle.do_sched.specs.declared.line.Line.{Line, TheVariants.{Start, Run, Take, Close, Lose}}
use Rattle.do_sched.specs.{declared.line.Line.TheVariants.{Timeout, Check}, Spelling.line_spelling}
use Rattle.do_trace.specs.declared.outcome.Outcome.{Outcome}
use Rattle.do_lines.specs.{Shown.shown_text, Lines.joined}

-- the node that a line steps; a loss and a check step none
abbrev pub stepped_node : Line → Option ℕ
stepped_node (Start port selector values) = Some port
stepped_node (Run port count) = Some port
stepped_node (Take port from) = Some port
stepped_node (Close port peer) = Some port
stepped_node (Lose from to after) = None
stepped_node (Timeout port) = Some port
stepped_node Check = None

-- what a node showed, line by line
abbrev pub shown_by : Option ℕ → List Shown → List ℕ
shown_by None shown = []
shown_by (Some port) shown = joined (map (shown_text port) shown)

-- what was shown, or `skip` alone where nothing was enabled
abbrev pub shown_lines : Option ℕ → Outcome → List ℕ
shown_lines node outcome =
    if outcome.enabled then shown_by node outcome.shown else joined (codes "skip" ∷ [])

-- an angle bracket, a space and the line
abbrev pub head_line : Line → List ℕ
head_line line = joined ((codes "> " ++ line_spelling line) ∷ [])

-- a line, and what it showed
abbrev pub line_lines : Line → Outcome → List ℕ
line_lines line outcome = head_line line ++ shown_lines (stepped_node line) outcome
