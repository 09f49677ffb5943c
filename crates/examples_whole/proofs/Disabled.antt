-- How a machine opens, and which events are not enabled.
use Rattle.do_base.specs.declared.events.event.Event.TheVariants as events
use Rattle.do_behave.specs.declared.invocation.Waited.TheVariants as waiteds
use Rattle.do_sched.specs.declared.line.Line.TheVariants as lines
use Rattle.do_machine.specs.declared.item.Item.TheVariants as items
use Rattle.std.{proofs.Common.{◌≡◌, List, [], ◌∷◌, refl}, specs.Prelude.codes}
use Rattle.do_base.specs.declared.{values.value.Value.Value, events.event.Event.Event}
use Rattle.do_behave.specs.declared.invocation.{Invocation.Invocation, InvState.TheVariants.Waits}
use Rattle.do_machine.specs.{declared.state.{State.State, Seat.Seat}, Commit.skipped, Step.step}
use Rattle.do_machine.specs.{World.opening, check.Blocks.line_step, run.{Fresh.pushed, Run.Acting}}
use Rattle.do_world.specs.Counter.{counter_classes}
use Rattle.examples_whole.proofs.Counters.{at_first, client, closed, counter, five, going, rootless}
use Rattle.examples_whole.proofs.Counters.{under_way, with_node}

-- the nodes of the counter world, the other way round
abbrev turned_nodes : List Seat
turned_nodes = record { node = 7002; root = record { 0 = 0 } }
    ∷ record { node = 7001; root = record { 0 = 1 } } ∷ []

-- the order of the nodes in a world makes no difference
the_nodes_stand_by_rising_port : opening counter_classes turned_nodes ≡ at_first
the_nodes_stand_by_rising_port = refl

-- an event of the counter world does nothing, whatever its objects do
abbrev DoesNothing : State → Event → Type 0
DoesNothing S e = (act : Acting) → step counter_classes act S e ≡ skipped S

-- a start of the client's method
abbrev begin : List Value → Event
begin values = events.Start 7001 (codes "go:") values

-- the client's method, which waits for the root of the counter's node
abbrev asking : Invocation
asking =
    record (going five) { state = Waits (record { node = 7001; number = 1 }) 7002 waiteds.Root }

-- the client's node runs its method
abbrev running : State
running = with_node 7001 (pushed (going five) client) at_first

-- the client's node waits
abbrev waiting : State
waiting = with_node 7001 (pushed asking client) at_first

-- a node with an invocation starts no other
a_busy_node_starts_nothing : DoesNothing running (begin (five ∷ []))
a_busy_node_starts_nothing act = refl

-- a start has as many values as the method has arguments: not none
a_start_without_a_value_does_nothing : DoesNothing at_first (begin [])
a_start_without_a_value_does_nothing act = refl

-- a client has no method of this selector
a_start_of_an_unknown_selector_does_nothing :
    DoesNothing at_first (events.Start 7001 (codes "add:") (five ∷ []))
a_start_of_an_unknown_selector_does_nothing act = refl

-- no node of the world has this port
a_port_without_a_node_starts_nothing :
    DoesNothing at_first (events.Start 7003 (codes "go:") (five ∷ []))
a_port_without_a_node_starts_nothing act = refl

-- a node without a root starts nothing
a_node_without_a_root_starts_nothing :
    DoesNothing (with_node 7001 (rootless client) at_first) (begin (five ∷ []))
a_node_without_a_root_starts_nothing act = refl

-- a node without an invocation does not run
an_idle_node_does_not_run : DoesNothing at_first (events.Run 7001)
an_idle_node_does_not_run act = refl

-- a line of several runs none of which is enabled is not enabled
a_line_without_an_enabled_run_does_nothing : (act : Acting)
    → line_step counter_classes act at_first (lines.Run 7001 9) ≡ skipped at_first
a_line_without_an_enabled_run_does_nothing act = refl

-- a node whose top invocation waits does not run
a_waiting_node_does_not_run : DoesNothing waiting (events.Run 7001)
a_waiting_node_does_not_run act = refl

-- a node whose top invocation runs waits for no call that could be given up
a_running_node_gives_nothing_up : DoesNothing running (events.Timeout 7001)
a_running_node_gives_nothing_up act = refl

-- there is no item to take
an_empty_queue_gives_nothing : DoesNothing at_first (events.Take 7002 7001)
an_empty_queue_gives_nothing act = refl

-- a node takes nothing of itself
a_node_takes_nothing_of_itself : DoesNothing at_first (events.Take 7001 7001)
a_node_takes_nothing_of_itself act = refl

-- the question for the counter's root is under way
abbrev asked : State
asked = under_way 7001 7002 (items.RootAsk 1)

-- a node whose top invocation runs takes nothing
a_running_node_takes_nothing :
    DoesNothing (with_node 7002 (pushed (going five) counter) asked) (events.Take 7002 7001)
a_running_node_takes_nothing act = refl

-- a node takes nothing over a closed end
nothing_is_taken_over_a_closed_end :
    DoesNothing (with_node 7002 (closed counter) asked) (events.Take 7002 7001)
nothing_is_taken_over_a_closed_end act = refl

-- an end that is closed is not closed again
a_closed_end_is_not_closed_again :
    DoesNothing (with_node 7001 (closed client) at_first) (events.Close 7001 7002)
a_closed_end_is_not_closed_again act = refl

-- a connection is not lost behind more items than are under way
nothing_is_lost_behind_more_items : DoesNothing asked (events.Lose 7001 7002 2)
nothing_is_lost_behind_more_items act = refl
