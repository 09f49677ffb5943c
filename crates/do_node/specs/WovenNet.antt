-- The network of a world as the machine that records are woven on.
use Rattle.std.specs.Prelude.{◌≡◌}
use Rattle.do_machine.specs.{declared.state.State.State, run.Run.Acting}
use Rattle.do_net.specs.{Net.{Stands, network}, OneMachine.StandsFor, Seen.Seen}
use Rattle.do_net.specs.declared.net.Net.{Net}
use Rattle.do_weave.specs.Rules.{Rules}

-- A network is the machine that goes by its classes and acts, in a state for which it stands.
pub record IsMachine {S A : Type 0} (seen : S → Seen) (act : Acting) (n : Net S A) (R : Rules)
    (state : State) : Type 0 where
  pub rules : R ≡ record { table = n.table; act = act }
  pub whole : Stands seen act n
  pub stands : StandsFor R.table R.act (network seen n) state
