-- Calls that were given up, kept by their numbers.
use Rattle.std.specs.Prelude.{◌==◌, ◌&&◌, Bool, false, not, ℕ, List, Option, Some, None, filter}
use Rattle.std.specs.Bool.{beq}
use Rattle.do_behave.specs.declared.invocation.Waited.{Waited}
use Rattle.do_machine.specs.{Lists.inserted, declared.node.LateCall.LateCall, ends.TimeOut.late_lt}
use Rattle.do_machine.specs.take.Awaiting.{AnsweredCall, is_for_root}

-- the late calls by rising number, and how many more fit with no memory taken
pub record Kept : Type 0 where
  pub calls : List LateCall
  pub spare : ℕ

-- the late call of a number, with the peer and what it was asked for
abbrev pub call_of : ℕ × (ℕ × Waited) → LateCall
call_of row = record { number = row.0; peer = row.1.0; what = row.1.1 }

-- the late calls but those of a number
abbrev pub others : ℕ → List LateCall → List LateCall
others n = filter (λ c. not (c.number == n))

-- a call among the late ones, in place of any other of its number
abbrev pub kept : LateCall → List LateCall → List LateCall
kept call late = inserted late_lt call (others call.number late)

-- an answer is to what is kept under its number
abbrev pub answers : AnsweredCall → Option (ℕ × Waited) → Bool
answers k None = false
answers k (Some v) = (v.0 == k.peer) && beq (is_for_root v.1) k.root
