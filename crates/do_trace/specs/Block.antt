-- A line of a schedule with what it came to.
use Rattle.std.specs.Prelude.{Option}
use Rattle.do_trace.specs.declared.outcome.{Outcome.Outcome, Snapshot.Snapshot}

-- a line, its outcome, and where it is a check what that lists
pub record Block (Line : Type 0) : Type 0 where
  pub line : Line
  pub outcome : Outcome
  pub listed : Option Snapshot
