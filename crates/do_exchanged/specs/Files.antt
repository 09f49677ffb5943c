-- What a node of a world wrote that served, as a file among those of other records.
use Rattle.std.specs.{Prelude.{Ok, List, ℕ, ◌+◌, ◌≡◌, ◌≤◌}, List.AllByRecursion}
use Rattle.do_class.specs.Class.{Class}
use Rattle.do_machine.specs.{declared.state.Seat.Seat, run.Run.Acting}
use Rattle.do_record.specs.{Recorded.record_of, declared.parts.Record.Record}
use Rattle.do_sched.specs.Schedule.{most_steps}
use Rattle.do_woven.specs.{Judging.judged, Steps.{record_steps, steps_in}}
use Rattle.do_recorded.specs.Inputs.{IsServed}
use Rattle.do_exchanged.specs.Runs.{Ran, record_of_run}

-- The bytes are what the node of a seat recorded of some inputs, and are read so. They are behind
-- earlier records too, as long as the steps are no more than those of any schedule
pub record IsReadBehind (table : List Class) (act : Acting) (seats : List Seat)
    (earlier : List Record) (seat : Seat) (bytes : List ℕ) : Type 0 where
  pub ran : Ran
  pub at : ran.seat ≡ seat
  pub served : AllByRecursion (IsServed seat.node) ran.inputs
  pub is_read : record_of bytes ≡ Ok (record_of_run table act seats ran)
  pub reads : steps_in earlier + record_steps (record_of_run table act seats ran) ≤ most_steps →
      judged seats earlier bytes ≡ Ok (record_of_run table act seats ran)
