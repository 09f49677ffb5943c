-- A transcript.
use Rattle.std.specs.{Prelude.{ℕ, List, [], ◌∷◌, ◌++◌, codes, Option, Some, None}, List.flat_map}
use Rattle.do_class.specs.Class.{Class}
use Rattle.do_sched.specs.declared.line.Line.{Line}
use Rattle.do_trace.specs.{declared.outcome.Snapshot.Snapshot, Block.Block}
use Rattle.do_lines.specs.{Lines.joined, Block.line_lines, Check.check_lines}

-- what a check lists stands behind its line
abbrev pub listed_lines : List Class → Option Snapshot → List ℕ
listed_lines table None = []
listed_lines table (Some snapshot) = check_lines table snapshot

-- a line, what it showed, and what it lists
abbrev pub block_lines : List Class → Block Line → List ℕ
block_lines table b = line_lines b.line b.outcome ++ listed_lines table b.listed

-- the line that begins a transcript
abbrev pub first_line : List ℕ
first_line = joined (codes "transcript 1" ∷ [])

-- the line that ends it
abbrev pub last_line : List ℕ
last_line = joined (codes "> end" ∷ [])

-- a first line, the blocks one after another, and a last line
abbrev pub transcript : List Class → List (Block Line) → List ℕ
transcript table bs = first_line ++ flat_map (block_lines table) bs ++ last_line
