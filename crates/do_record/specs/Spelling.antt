-- How a record is written.
use Rattle.do_sched.specs.declared.line.Line.TheVariants as lines
use Rattle.std.specs.Prelude.{Bool, ℕ, List, [], ◌++◌, codes, decimal, if◌then◌else◌}
use Rattle.std.specs.List.{flat_map}
use Rattle.do_sched.specs.Spelling.{fed, line_spelling, number_pair}
use Rattle.do_record.specs.declared.parts.{Block.Block, RecordLine.RecordLine}
use Rattle.do_record.specs.declared.parts.RecordLine.TheVariants.{Close, Ended, Run, Start, Take}

-- an input of a node: the line of a schedule that does it, or `ended` and the two ports
abbrev pub input_text : ℕ → RecordLine → List ℕ
input_text port (Start selector values) = line_spelling (lines.Start port selector values)
input_text port Run = line_spelling (lines.Run port 1)
input_text port (Take from) = line_spelling (lines.Take port from)
input_text port (Close peer) = line_spelling (lines.Close port peer)
input_text port (Ended peer) = codes "ended " ++ number_pair port peer

-- an input behind an angle bracket and a space
abbrev pub input_line : ℕ → RecordLine → List ℕ
input_line port input = fed (codes "> " ++ input_text port input)

-- the first line of a record
abbrev pub first_line : ℕ → List ℕ
first_line port = fed (codes "record 1 " ++ decimal port)

-- the last line of one that is whole
abbrev pub last_line : List ℕ
last_line = fed (codes "> end")

-- an input and what it showed
abbrev pub block_text : ℕ → Block → List ℕ
block_text port b = input_line port b.input ++ b.shown

-- a record as far as these blocks
abbrev pub begun : ℕ → List Block → List ℕ
begun port blocks = first_line port ++ flat_map (block_text port) blocks

-- what stands behind the blocks of a record, whole or not
abbrev pub ending : Bool → List ℕ
ending whole = if whole then last_line else []
