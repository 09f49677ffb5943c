-- How many steps of a schedule records take.
use Rattle.std.specs.Prelude.{List, None, Option, Some, [], if◌then◌else◌, nat_lt, sum_by, ℕ, ◌+◌}
use Rattle.std.specs.Prelude.{◌∷◌}
use Rattle.do_record.specs.declared.parts.{Block.Block, Record.Record, RecordLine.RecordLine}
use Rattle.do_record.specs.declared.parts.RecordLine.TheVariants.{Ended}
use Rattle.do_sched.specs.Schedule.{most_steps}

-- the steps of an input; an end that came without notice takes two, the loss and the take
abbrev pub input_steps : RecordLine → ℕ
input_steps (Ended peer) = 2
input_steps input = 1

-- the steps of a block
abbrev pub block_steps : Block → ℕ
block_steps b = input_steps b.input

-- the steps of a record
abbrev pub record_steps : Record → ℕ
record_steps r = sum_by block_steps r.blocks

-- the steps of records
abbrev pub steps_in : List Record → ℕ
steps_in records = sum_by record_steps records

-- the line of the first block with which the steps, so many before, are more than those of any
-- schedule
abbrev pub passing_line : ℕ → List Block → Option ℕ
passing_line done [] = None
passing_line done (b ∷ bs) =
    if nat_lt most_steps (done + block_steps b) then Some b.line
    else passing_line (done + block_steps b) bs
