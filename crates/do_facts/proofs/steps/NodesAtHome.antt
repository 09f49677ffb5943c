-- In every state that a machine comes to, each node stands at its own port.
use Rattle.std.{proofs.Common.{◌≡◌, ℕ, List, refl, ◌∙◌, map}, specs.Prelude.{Option, Some}}
use Rattle.do_base.specs.declared.events.event.Event.{Event}
use Rattle.do_class.specs.Class.{Class}
use Rattle.do_machine.specs.{declared.{node.Node.Node, state.{Seat.Seat, State.State}}, State.node}
use Rattle.do_machine.specs.{Step.step, World.{by_port, opening}}
use Rattle.do_facts.specs.laws.Follows.{Grows}
use Rattle.do_machine.specs.run.Run.{Acting}
use Rattle.do_facts.proofs.{machine.follows.Every.{grow_steps, was}, OpeningAsNet.opened}

-- each node stands at its own port
pub record AllAtHome (S : State) : Type 0 where
  pub each : (port : ℕ) (n : Node) → node S port ≡ Some n → n.port ≡ port

-- a machine opens so
pub opening_home : (table : List Class) (seats : List Seat) → AllAtHome (opening table seats)
opening_home table seats = record {
  each = λ port n here.
      opened table (map (λ s. s.node) (by_port seats)) (λ p m. m.port ≡ p) (λ s. refl)
      (by_port seats) port n here;
}

module _ (table : List Class) (act : Acting) where
  -- a node that is there after a step was there before
  pub was_there : (S : State) (event : Event) (port : ℕ) (m : Node) →
      node (step table act S event).state port ≡ Some m → (found : Option Node) →
      node S port ≡ found → (n : Node) × (node S port ≡ Some n) × Grows n m
  was_there S event =
      was Grows S (step table act S event).state (grow_steps table act S event)

  -- a step
  pub step_home : (S : State) (event : Event) → AllAtHome S →
      AllAtHome (step table act S event).state
  step_home S event home = record {
    each = λ port m here.
        let was = was_there S event port m here (node S port) refl in
        was.2.port ∙ home.each port was.0 was.1;
  }
