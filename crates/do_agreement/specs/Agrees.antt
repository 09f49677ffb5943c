-- When a network agrees with a state of the machine.
use Rattle.std.specs.Prelude.{List, Some, ℕ, ◌≡◌}
use Rattle.do_base.specs.names.Names.{ObjectName}
use Rattle.do_class.specs.Class.{Class}
use Rattle.do_machine.specs.{declared.state.{State.State, Stepped.Stepped}, Context.around}
use Rattle.do_network.specs.{Links.Part, Net.{Net, part_at}, Own.class_kept, Step.NetStepped}
use Rattle.do_agreement.specs.Tallies.{Tallies}

-- A network tallies with a state, and its classes are the state's for what is held or asked for
pub record Agrees (table : List Class) (N : Net) (S : State) : Type 0 where
  pub tallies : Tallies table N S
  pub classes : (port : ℕ) (p : Part) → part_at N port ≡ Some p → (o : ObjectName) →
      class_kept p.own o ≡ (around S p.own.node).class_of o

-- What an event makes of a network agrees with what it makes of a state, and it comes to the same
pub record StepAgrees (table : List Class) (s : NetStepped) (t : Stepped) : Type 0 where
  pub agrees : Agrees table s.net t.state
  pub outcome : s.outcome ≡ t.outcome
