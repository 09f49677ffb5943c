-- The record of a node that is served: its inputs as lines, and what each showed.
use Rattle.do_sched.specs.declared.line.Line.TheVariants as line
use Rattle.do_network.specs.declared.input.Done.TheVariants as done
use Rattle.std.specs.Prelude.{ℕ, List, [], ◌∷◌, ◌++◌, map, codes, decimal}
use Rattle.do_base.specs.declared.events.shown.Shown.{Shown}
use Rattle.do_sched.specs.Spelling.{number_pair}
use Rattle.do_lines.specs.{Lines.joined, Block.head_line, Shown.shown_text}
use Rattle.do_network.specs.declared.input.Input.{Input, TheVariants.{Run, Start, Frame, Close}}
use Rattle.do_network.specs.declared.input.{Input.TheVariants.{Ended, Timeout}, Done.Done}

-- the line of an input that was done
abbrev pub input_line : ℕ → Input → List ℕ
input_line port Run = head_line (line.Run port 1)
input_line port (Start selector values) = head_line (line.Start port selector values)
input_line port (Frame peer frame) = head_line (line.Take port peer)
input_line port (Close peer) = head_line (line.Close port peer)
input_line port (Ended peer) = joined ((codes "> ended " ++ number_pair port peer) ∷ [])
input_line port Timeout = head_line (line.Timeout port)

-- the line of an act
abbrev pub act_line : ℕ → List ℕ
act_line port = input_line port Run

-- the line of an input, by what came of it: one that closed an end is written as a close, and one
-- that was skipped not at all
abbrev pub head_by : ℕ → Input → Done → List ℕ
head_by port input done.Moved = input_line port input
head_by port input done.Skipped = []
head_by port input (done.Closed peer fault) = head_line (line.Close port peer)

-- the line of an input, and what it showed
abbrev pub block : ℕ → Input → Done → List Shown → List ℕ
block port input done shown = head_by port input done ++ joined (map (shown_text port) shown)

-- the line that begins a record
abbrev pub first_line : ℕ → List ℕ
first_line port = joined ((codes "record 1 " ++ decimal port) ∷ [])

-- the line that ends one whose serving was done
abbrev pub last_line : List ℕ
last_line = joined (codes "> end" ∷ [])
