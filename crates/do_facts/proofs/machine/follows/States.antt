-- Which node stands where, once an effect is put into the state or items of one queue are others.
use Rattle.std.proofs.Common.{◌≡◌, ℕ, List, [], ◌∷◌, refl, arith, ◌==◌}
use Rattle.std.specs.{Prelude.{Option, Some, option_map}, List.find}
use Rattle.do_machine.specs.declared.{item.Item.Item, node.Node.Node, state.Effect.Effect}
use Rattle.do_machine.specs.{declared.state.Station.Station, Commit.committed, Lists.change_first}
use Rattle.do_machine.specs.State.{with_queue}

-- the node of a port among stations
abbrev among : ℕ → List Station → Option Node
among port ss = option_map (λ s. s.node) (find (λ s. port == s.port) ss)

-- an effect changes the node that it is of
pub changed : (port : ℕ) (e : Effect) (n : Node) (ss : List Station) → among port ss ≡ Some n →
    among port (change_first (λ s. port == s.port) (committed e) ss) ≡ Some e.node
changed port e n [] h = cc
changed port e n (s ∷ ss) h = grind (arith, h, changed port e n ss)

-- other items in a queue change no node
pub requeued : (from to port : ℕ) (items : List Item) (ss : List Station) →
    among port (change_first (λ s. from == s.port) (with_queue to items) ss) ≡ among port ss
requeued from to port items [] = refl
requeued from to port items (s ∷ ss) = grind (arith, requeued from to port items ss)
