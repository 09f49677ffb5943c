-- The numbers of a network's nodes are those of the machine's.
use Rattle.std.{proofs.Common.{◌∙◌, ◌<◌, ℕ, List, ap, length, sym}, specs.Prelude.option_map}
use Rattle.do_base.specs.declared.events.event.Event.{Event}
use Rattle.do_class.specs.Class.{Class}
use Rattle.do_machine.specs.{declared.state.{Seat.Seat, State.State}, World.IsWorld, run.Run.Acting}
use Rattle.do_facts.specs.Reached.{reached}
use Rattle.do_network.specs.{Links.Part, Net.Net}
use Rattle.do_limits.specs.{Numbers.AllNumbersWithin, SendableActs.AllStartSendable}
use Rattle.do_limits.{specs.SendableActs.KeepsSendable, proofs.Selectors.has_methods}
use Rattle.do_limits.proofs.numbers.{Few.few_small, Reached.reached_numbers}
use Rattle.do_agreement.proofs.agreement.GoesOn.{Goes}
use Rattle.do_within.specs.{Numbers.{AllNumbersSmall, NetNumbersWithin}, Received.net_reached}
use Rattle.do_within.proofs.schedules.Walk.{from_opening}

-- a network that agrees with a state has the state's numbers
shown_within : (table : List Class) (N : Net) (S : State) → Goes table N S → (count : ℕ) →
    AllNumbersWithin count S → NetNumbersWithin count N
shown_within table N S goes count all port p here =
    all port p.own.node
    (sym (goes.agrees.tallies.shows.nodes port)
    ∙ ap (option_map (λ (q : Part). q.own.node)) here)

module _ (table : List Class) (act : Acting) (seats : List Seat) (world : IsWorld table seats)
    (acts : KeepsSendable table act) (events : List Event) (starts : AllStartSendable events)
    (few : length events < 70368744177664) where
  -- the numbers of the network that is reached
  pub numbers_reached : NetNumbersWithin (length events) (net_reached table act seats events)
  numbers_reached =
      shown_within table (net_reached table act seats events) (reached table act seats events)
      (from_opening table act seats world acts events starts few).1.goes (length events)
      (reached_numbers table act (has_methods table world.classes world.signatures) acts seats
      events world.seated starts)

  -- they are small
  pub numbers_small : AllNumbersSmall (net_reached table act seats events)
  numbers_small port p here =
      few_small (length events) p.own.node few (numbers_reached port p here)
