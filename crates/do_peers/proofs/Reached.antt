-- Of every state that a machine comes to, entries change by steps of their home alone.
use Rattle.std.proofs.Common.{◌≡◌, ℕ, List}
use Rattle.do_base.specs.{names.Names.ObjectName, declared.events.event.Event.Event}
use Rattle.do_class.specs.Class.{Class}
use Rattle.do_machine.specs.{declared.state.{Seat.Seat, State.State}, Entry.has_entry, Step.step}
use Rattle.do_machine.specs.run.Run.{Acting}
use Rattle.do_facts.specs.{Reached.reached, laws.Entries.{HasQueues, IsNoStepOf}}
use Rattle.do_facts.{specs.laws.Follows.AllHoldOpen, proofs.ReachedStates.holds_of_reached}
use Rattle.do_facts.proofs.machine.{Opening.opening_holds, follows.Every.{all_hold, grow_steps}}
use Rattle.do_facts.proofs.machine.passing.EntriesStay.{entries_stay}
use Rattle.do_facts.proofs.machine.passing.Linked.{opening_queues, queues_stay}

-- nodes hold over open ends alone, and have their queues
abbrev IsLinked : State → Type 0
IsLinked S = AllHoldOpen S × HasQueues S

-- in a reached state no step but the home's own changes an entry
pub reached_entries : (table : List Class) (act : Acting) (seats : List Seat) (events : List Event)
    (event : Event) (peer : ℕ) (o : ObjectName) → IsNoStepOf o.node event →
    has_entry (step table act (reached table act seats events) event).state peer o
    ≡ has_entry (reached table act seats events) peer o
reached_entries table act seats events event peer o home =
    let linked : IsLinked (reached table act seats events) =
    holds_of_reached table act IsLinked
    (λ S e h. (
      all_hold S (step table act S e).state (grow_steps table act S e) h.0,
      queues_stay table act S e h.1,
    ))
    seats events (opening_holds table seats, opening_queues table seats)
    in entries_stay table act (reached table act seats events) event peer o linked.0 linked.1 home
