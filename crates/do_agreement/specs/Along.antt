-- What holds along a schedule.
use Rattle.std.specs.Prelude.{List, [], ◌∷◌, ◌≡◌}
use Rattle.do_base.specs.declared.events.event.Event.{Event}
use Rattle.do_class.specs.Class.{Class}
use Rattle.do_machine.specs.{declared.state.State.State, Step.step, check.Blocks.events_of}
use Rattle.do_machine.specs.run.Run.{Acting}
use Rattle.do_sched.specs.declared.line.Line.{Line}
use Rattle.do_network.specs.{Net.Net, Spelled.SendsSpelled, Step.net_step, Wired.net_line_step}
use Rattle.do_agreement.specs.Agrees.{Agrees}

module _ (table : List Class) (act : Acting) where
  -- one event after another comes to the same in a network and in a machine, and at the end the
  -- network agrees with the state
  abbrev pub ComesToTheSame : Net → State → List Event → Type 0
  ComesToTheSame N S [] = Agrees table N S
  ComesToTheSame N S (event ∷ events) =
      ((net_step table act N event).outcome ≡ (step table act S event).outcome)
      × ComesToTheSame (net_step table act N event).net (step table act S event).state events

  -- each frame that is sent in these events, one after another, has a spelling
  abbrev pub EventsSendSpelled : Net → List Event → Type 0
  EventsSendSpelled N [] = Unit {0}
  EventsSendSpelled N (event ∷ events) =
      SendsSpelled table act N event
      × EventsSendSpelled (net_step table act N event).net events

  -- each frame that is sent in these lines, one after another, has a spelling
  abbrev pub LinesSendSpelled : Net → List Line → Type 0
  LinesSendSpelled N [] = Unit {0}
  LinesSendSpelled N (line ∷ behind) =
      EventsSendSpelled N (events_of line)
      × LinesSendSpelled (net_line_step table act N line).net behind
