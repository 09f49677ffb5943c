-- What an event does to the queues between nodes.
use Rattle.do_base.specs.declared.events.event.Event.TheVariants as events
use Rattle.do_machine.specs.declared.item.Item.TheVariants as items
use Rattle.std.specs.Prelude.{Bool, List, Some, [], false, length, ℕ, ◌&&◌, ◌++◌, ◌==◌, ◌∷◌, ◌≡◌}
use Rattle.std.specs.{Prelude.◌≤◌, List.insert}
use Rattle.do_base.specs.declared.events.event.Event.{Event}
use Rattle.do_machine.specs.{declared.{item.Item.Item, state.State.State}, State.queue}

-- the event takes from the queue between two ports, or loses something in it
abbrev pub touches : Event → ℕ → ℕ → Bool
touches (events.Take port peer) from to = (from == peer) && (to == port)
touches (events.Lose peer port after) from to = (from == peer) && (to == port)
touches _ from to = false

-- these items stand in a queue, and perhaps more behind them
abbrev pub StandBehind : State → ℕ → ℕ → List Item → Type 0
StandBehind T from to waiting = (more : List Item) × (queue T from to ≡ Some (waiting ++ more))

-- the oldest item was taken out of a queue, and nothing came behind the others
abbrev pub IsTaken : State → State → ℕ → ℕ → Type 0
IsTaken S T from to =
    (item : Item) × (rest : List Item) × (queue S from to ≡ Some (item ∷ rest))
    × (queue T from to ≡ Some rest)

-- an end that names nothing stands behind so many of the items of a queue
abbrev pub IsLost : State → State → ℕ → ℕ → ℕ → Type 0
IsLost S T from to after =
    (waiting : List Item) × (queue S from to ≡ Some waiting) × (after ≤ length waiting)
    × (queue T from to ≡ Some (insert waiting after (items.End [])))
