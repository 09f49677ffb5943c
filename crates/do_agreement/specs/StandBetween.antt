-- What is under way between two nodes of a state.
use Rattle.std.specs.Prelude.{List, Some, map, ◌≡◌, ◌≢◌}
use Rattle.do_machine.specs.{declared.{node.Node.Node, state.State.State}, State.{node, queue}}
use Rattle.do_network.specs.fits.Notes.{Note}

-- Two nodes are those of their ports in a state, and notes there and back are of the items that
-- wait in the queues between them
pub record StandBetween (S : State) (n m : Node) (there back : List Note) : Type 0 where
  pub here : node S n.port ≡ Some n
  pub peer : node S m.port ≡ Some m
  pub goes : queue S n.port m.port ≡ Some (map (λ x. x.item) there)
  pub comes : queue S m.port n.port ≡ Some (map (λ x. x.item) back)
  pub apart : n.port ≢ m.port
