-- The machine of version 1: it takes and closes by the rules of that version, and has no time-outs.
use Rattle.do_base.specs.declared.events.event.Event.TheVariants as events
use Rattle.std.specs.Prelude.{List, None, Option, Some, [], drop, not, slice_get, unwrap_or, ℕ, ◌≡◌}
use Rattle.do_base.specs.declared.events.event.Event.{Event}
use Rattle.do_class.specs.Class.{Class}
use Rattle.do_machine.specs.declared.{node.Node.Node, state.{State.State, Stepped.Stepped}}
use Rattle.do_machine.specs.{Chain.{when◌then◌, ◌>>=◌, ◌>>◌, ◌otherwise◌}, Commit.{moved, skipped}}
use Rattle.do_machine.specs.{Context.context, State.{change, is_open, node, queue, with_queue}}
use Rattle.do_machine.specs.Step.{enabled_step}
use Rattle.do_facts.specs.laws.{Version1.closing_1, first.Take.take_effect_1}
use Rattle.do_machine.specs.{run.Run.Acting, take.Take.can_take}

-- a node takes the oldest item that waits from another
abbrev pub take_1 : List Class → State → ℕ → ℕ → Option Stepped
take_1 table S port from = do
  n ← node S port otherwise None
  when not (can_take from n) then None
  waiting ← queue S from port otherwise None
  item ← slice_get waiting 0 otherwise None
  let T = change from (with_queue port (drop 1 waiting)) S
  Some (moved port T (take_effect_1 (context table T n) from item))

-- a node closes its end of the connection to a peer
abbrev pub close_1 : State → ℕ → ℕ → Option Stepped
close_1 S port peer = do
  n ← node S port otherwise None
  when not (is_open n peer) then None
  Some (moved port S (closing_1 peer n))

-- what an event does, where it is enabled
abbrev pub enabled_step_1 : List Class → Acting → State → Event → Option Stepped
enabled_step_1 table act S (events.Take port from) = take_1 table S port from
enabled_step_1 table act S (events.Close port peer) = close_1 S port peer
enabled_step_1 table act S (events.Timeout port) = None
enabled_step_1 table act S event = enabled_step table act S event

-- one event; one that is not enabled changes nothing
abbrev pub step_1 : List Class → Acting → State → Event → Stepped
step_1 table act S event = unwrap_or (enabled_step_1 table act S event) (skipped S)

-- no call of a node was given up
abbrev pub IsOnTime : Node → Type 0
IsOnTime n = n.late ≡ []

-- no call of any node was given up
pub record AllOnTime (S : State) : Type 0 where
  pub each : (port : ℕ) (n : Node) → node S port ≡ Some n → IsOnTime n
