-- What a step of one node changes of a state.
use Rattle.std.specs.Prelude.{List, Some, drop, ℕ, ◌++◌, ◌==◌, ◌≡◌, ◌∷◌}
use Rattle.do_machine.specs.{Commit.{commit, showed}, Lists.change_first}
use Rattle.do_machine.specs.{State.{change, queue, with_items}, declared.item.Item.Item}
use Rattle.do_machine.specs.declared.state.{Effect.Effect, Queue.Queue, State.State}
use Rattle.do_machine.specs.declared.state.{Station.Station, Stepped.Stepped}

-- What a step has of the queues to its node.
pub data Source : Type 0 where
  -- nothing of any queue
  Still : Source
  -- the queue from a peer is there, and stays as it is
  There : ℕ → Source
  -- the item that stands first in the queue from a peer is taken off
  First : ℕ → Item → Source

-- a queue without its first item
abbrev pub shortened : Queue → Queue
shortened q = with_items (drop 1 q.items) q

-- a station without the first item of its queue to a peer
abbrev pub without_first : ℕ → Station → Station
without_first to s = record s { queues = change_first (λ q. to == q.to) shortened s.queues }

-- the state without what a node takes off
abbrev pub taken_off : ℕ → Source → State → State
taken_off port Still S = S
taken_off port (There from) S = S
taken_off port (First from item) S = change from (without_first port) S

-- what a node has of the queues to it is there
abbrev pub Stands : ℕ → Source → State → Type 0
Stands port Still S = Unit {0}
Stands port (There from) S = (w : List Item) × (queue S from port ≡ Some w)
Stands port (First from item) S = (w : List Item) × (queue S from port ≡ Some (item ∷ w))

-- A step of a node: what it takes off, its effect, and the effect of what it leaves then.
pub record Move : Type 0 where
  pub port : ℕ
  pub source : Source
  pub effect : Effect
  pub leaves : Effect

-- the state once the effect is committed
abbrev pub effected : Move → State → State
effected m S = commit m.port m.effect (taken_off m.port m.source S)

-- the state after the whole step
abbrev pub done : Move → State → State
done m S = commit m.port m.leaves (effected m S)

-- what the step comes to
abbrev pub performed : Move → State → Stepped
performed m S = showed (m.effect.shown ++ m.leaves.shown) (done m S)
