-- A network that stands for a state stands, after lines, for the state to which they lead.
use Rattle.std.proofs.Common.{◌≡◌, List, [], ◌∷◌, subst, sym}
use Rattle.do_class.specs.Class.{Class}
use Rattle.do_machine.specs.{declared.state.State.State, check.Blocks.line_step, run.Run.Acting}
use Rattle.do_sched.specs.declared.line.Line.{Line}
use Rattle.do_net.{specs.OneMachine.StandsFor, proofs.StandsForStates.line_as_one}
use Rattle.do_network.specs.{Net.Net, Wired.net_line_step}
use Rattle.do_agreement.specs.Along.{LinesSendSpelled}
use Rattle.do_replay.specs.Replayed.{net_after, state_after}

-- each line leads to such a state
pub lines_as_one : (table : List Class) (act : Acting) (lines : List Line) (N : Net) (S : State) →
    StandsFor table act N S → LinesSendSpelled table act N lines →
    StandsFor table act (net_after table act N lines) (state_after table act S lines)
lines_as_one table act [] N S stands sends = stands
lines_as_one table act (line ∷ lines) N S stands sends =
    lines_as_one table act lines (net_line_step table act N line).net
    (line_step table act S line).state (line_as_one table act N S stands line sends.0) sends.1

-- a network to which lines led does
pub led_as_one : (table : List Class) (act : Acting) (lines : List Line) (N M : Net) (S : State) →
    M ≡ net_after table act N lines → LinesSendSpelled table act N lines →
    StandsFor table act N S → StandsFor table act M (state_after table act S lines)
led_as_one table act lines N M S led sends stands =
    subst (λ K. StandsFor table act K (state_after table act S lines)) (sym led)
    (lines_as_one table act lines N S stands sends)
