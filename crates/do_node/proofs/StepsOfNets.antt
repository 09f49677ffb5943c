-- A network that is a machine steps as the machine.
use Rattle.do_network.specs.Net as definitions
use Rattle.std.proofs.Common.{◌≡◌, ℕ, Bool, subst, sym}
use Rattle.do_base.specs.declared.events.event.Event.{Event}
use Rattle.do_machine.specs.{declared.state.State.State, run.Run.Acting}
use Rattle.do_trace.specs.declared.outcome.Outcome.{Outcome}
use Rattle.do_net.specs.{Net.network, OneMachine.{StandsFor, StepsAsOne, machine_can_take}}
use Rattle.do_net.specs.{Seen.Seen, declared.net.Net.Net}
use Rattle.do_weave.specs.{Inputs.takes, Rules.Rules}
use Rattle.do_node.specs.WovenNet.{IsMachine}

module _ {S A : Type 0} (seen : S → Seen) (act : Acting) (n : Net S A) (R : Rules) (state : State)
    (is : IsMachine seen act n R state) where
  -- what holds where the network stands for states of its classes and acts holds by the rules
  by_rules : (P : Rules → Type 0) → P (record { table = n.table; act = act }) → P R
  by_rules P h = subst P (sym is.rules) h

  -- a node can take the same
  pub takes_alike : (port from : ℕ) (told : Bool) →
      ((T : State) → StandsFor n.table act (network seen n) T →
      told ≡ machine_can_take T port from) → told ≡ takes state port from
  takes_alike port from told so =
      by_rules (λ Q. StandsFor Q.table Q.act (network seen n) state → told ≡ takes state port from)
      (so state) is.stands

  -- an event comes to the same
  pub steps_alike : (event : Event) (told : Outcome) (after : definitions.Net) →
      ((T : State) → StandsFor n.table act (network seen n) T →
      StepsAsOne n.table act T event told after) → StepsAsOne R.table R.act state event told after
  steps_alike event told after so =
      by_rules (λ Q. StandsFor Q.table Q.act (network seen n) state →
      StepsAsOne Q.table Q.act state event told after) (so state) is.stands
