-- Records that are read one behind another.
use Rattle.std.specs.Prelude.{Bool, Err, List, None, Ok, Option, Result, Some, if◌then◌else◌, not}
use Rattle.std.specs.{Prelude.{ℕ, ◌&&◌, ◌==◌}, List.list_any}
use Rattle.do_machine.specs.declared.state.Seat.{Seat}
use Rattle.do_record.specs.{Recorded.record_of, declared.parts.Record.Record}
use Rattle.do_sched.specs.declared.fault.SchedFault.{SchedFault, TheVariants.BadLine}
use Rattle.do_woven.specs.Steps.{passing_line, steps_in}

-- a port is that of a node of a world
abbrev pub has_seat : List Seat → ℕ → Bool
has_seat seats port = list_any (λ s. s.node == port) seats

-- one of some records is of a node
abbrev pub has_record : List Record → ℕ → Bool
has_record records port = list_any (λ r. r.port == port) records

-- the line at which a record may not stand behind others: the first where its node is not of the
-- world or has a record, else the one with which the steps are too many
abbrev pub fault_line : List Seat → List Record → Record → Option ℕ
fault_line seats earlier r =
    if has_seat seats r.port && not (has_record earlier r.port)
    then passing_line (steps_in earlier) r.blocks
    else Some 1

-- a record, unless a line of it is at fault
abbrev pub unless_at : Record → Option ℕ → Result Record SchedFault
unless_at r None = Ok r
unless_at r (Some line) = Err (BadLine line)

-- a record that was read stands behind others, or a line of it is at fault
abbrev pub behind : List Seat → List Record → Result Record SchedFault → Result Record SchedFault
behind seats earlier (Err fault) = Err fault
behind seats earlier (Ok r) = unless_at r (fault_line seats earlier r)

-- the record that bytes are behind others, or their first line at fault
abbrev pub judged : List Seat → List Record → List ℕ → Result Record SchedFault
judged seats earlier bytes = behind seats earlier (record_of bytes)
