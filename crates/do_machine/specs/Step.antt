-- The machine: what each event does to a state.
use Rattle.do_base.specs.declared.events.event.Event.TheVariants as events
use Rattle.std.specs.Prelude.{List, None, Option, Some, [], drop, not, option_and_then, option_map}
use Rattle.std.specs.Prelude.{slice_get, unwrap_or, ℕ}
use Rattle.do_base.specs.declared.{values.value.Value.Value, events.event.Event.Event}
use Rattle.do_class.specs.Class.{Class}
use Rattle.do_machine.specs.declared.state.{State.State, Effect.Effect, Stepped.Stepped}
use Rattle.do_machine.specs.Chain.{when◌then◌, ◌>>=◌, ◌>>◌, ◌otherwise◌}
use Rattle.do_machine.specs.{Commit.{moved, showed, skipped}, Context.context, Start.start_effect}
use Rattle.do_machine.specs.State.{change, is_open, node, queue, with_queue}
use Rattle.do_machine.specs.{take.Take.{can_take, take_effect}, ends.{Closing.closing, Losing.lost}}
use Rattle.do_machine.specs.{ends.TimeOut.time_out, run.Run.{Acting, run_effect}}

-- where there is an effect, the node moves
abbrev pub moved_by : ℕ → State → Option Effect → Option Stepped
moved_by port S effect = option_map (moved port S) effect

-- the node of a port is started
abbrev pub start : List Class → State → ℕ → List ℕ → List Value → Option Stepped
start table S port selector values =
    moved_by port S (option_and_then (start_effect table selector values) (node S port))

-- the top invocation of a node does one act
abbrev pub run : List Class → Acting → State → ℕ → Option Stepped
run table act S port =
    moved_by port S (option_and_then (λ n. run_effect act (context table S n)) (node S port))

-- a node takes the oldest item that waits from another
abbrev pub take : List Class → State → ℕ → ℕ → Option Stepped
take table S port from = do
  n ← node S port otherwise None
  when not (can_take from n) then None
  waiting ← queue S from port otherwise None
  item ← slice_get waiting 0 otherwise None
  let T = change from (with_queue port (drop 1 waiting)) S
  Some (moved port T (take_effect (context table T n) from item))

-- a node closes its end of the connection to a peer
abbrev pub close : State → ℕ → ℕ → Option Stepped
close S port peer = do
  n ← node S port otherwise None
  when not (is_open n peer) then None
  Some (moved port S (closing peer n))

-- the top invocation of a node waits no longer for its call
abbrev pub timeout : State → ℕ → Option Stepped
timeout S port = moved_by port S (option_and_then time_out (node S port))

-- what an event does, where it is enabled
abbrev pub enabled_step : List Class → Acting → State → Event → Option Stepped
enabled_step table act S (events.Start port selector values) = start table S port selector values
enabled_step table act S (events.Run port) = run table act S port
enabled_step table act S (events.Take port from) = take table S port from
enabled_step table act S (events.Close port peer) = close S port peer
enabled_step table act S (events.Lose from to after) = option_map (showed []) (lost S from to after)
enabled_step table act S (events.Timeout port) = timeout S port
enabled_step table act S events.Check = Some (showed [] S)

-- one event; one that is not enabled changes nothing
abbrev pub step : List Class → Acting → State → Event → Stepped
step table act S event = unwrap_or (enabled_step table act S event) (skipped S)
