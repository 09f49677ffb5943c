-- A network that stands for a state goes on standing for states, event by event.
use Rattle.do_facts.proofs.calls.ReachedCalls as calls_kept
use Rattle.do_facts.proofs.links.ReachedLinks as links_kept
use Rattle.std.proofs.Common.{◌≡◌, ◌==◌, ◌++◌, ℕ, false, List, [], ◌∷◌, refl, sym, ap, ◌∙◌, subst}
use Rattle.std.{proofs.Common.arith, specs.Prelude.{None, Option, Some, option_map}}
use Rattle.std.{specs.List.IsDistinct, proofs.lemmas.Bool.Decides.Decides-eqb}
use Rattle.std.proofs.lemmas.{List.Kept.AllPairs-from_increasing, Map.Made.IsDistinct-from_AllPairs}
use Rattle.do_base.specs.declared.events.event.Event.{Event}
use Rattle.do_class.specs.Class.{Class}
use Rattle.do_machine.specs.declared.state.{Seat.Seat, State.State, Stepped.Stepped}
use Rattle.do_machine.specs.{Commit.skipped, Lists.some_passes, State.ports, Step.step}
use Rattle.do_machine.specs.World.{IsWorld, opening}
use Rattle.do_machine.specs.check.Blocks.{events_of, followed, line_step, steps}
use Rattle.do_machine.specs.{check.Snapshot.snapshot, run.Run.Acting, take.Take.can_take}
use Rattle.do_facts.proofs.machine.Ports.{opening_rises, step_ports}
use Rattle.do_sched.specs.declared.line.Line.{Line}
use Rattle.do_trace.specs.declared.outcome.Outcome.{Outcome}
use Rattle.do_facts.specs.{Reached.reached, calls.Facts.CallsAreKept}
use Rattle.do_facts.{specs.links.LinksAreKept.LinksAreKept, proofs.ReachedStates.holds_of_reached}
use Rattle.do_network.specs.{Links.Part, Net.{Net, net_opening, part_at}, Snapshot.net_snapshot}
use Rattle.do_network.specs.{Spelled.SendsSpelled, Step.{NetStepped, net_skipped, net_step}}
use Rattle.do_network.specs.Wired.{net_line_step, net_steps}
use Rattle.do_agreement.specs.{Agrees.{Agrees, StepAgrees}, Along.EventsSendSpelled}
use Rattle.do_agreement.specs.Classed.{ClassesAreTold}
use Rattle.do_agreement.proofs.agreement.OpeningAgrees.{opening_agrees}
use Rattle.do_agreement.proofs.agreement.{SnapshotsAgree.snapshots_same, StepsAgree.step_agrees}
use Rattle.do_agreement.proofs.told.EachState.{reached_told}
use Rattle.do_net.specs.{Hosts.net_can_take, OneMachine.{StandsFor, StepsAsOne, machine_can_take}}

module _ (table : List Class) (act : Acting) where
  -- one event more
  steps_more : (events : List Event) (event : Event) (s : Stepped) →
      (steps table act (events ++ event ∷ []) s).state
      ≡ (step table act (steps table act events s).state event).state
  steps_more [] event s = refl
  steps_more (e ∷ events) event s =
      steps_more events event (followed s (step table act s.state e))

  -- as a network opens, it stands for the opening
  pub opening_stands : (seats : List Seat) → IsWorld table seats →
      StandsFor table act (net_opening table seats) (opening table seats)
  opening_stands seats world = record {
    seats = seats;
    world = world;
    events = [];
    comes = refl;
    agrees = opening_agrees table seats;
  }

  module _ (N : Net) (S : State) (stands : StandsFor table act N S) where
    -- what holds of every state that the machine comes to holds of this one
    pub of_state : (P : State → Type 0) →
        ((seats : List Seat) (events : List Event) → P (reached table act seats events)) → P S
    of_state P all = subst P (sym stands.comes) (all stands.seats stands.events)

    -- an event comes to the same in both
    step_alike : (event : Event) → SendsSpelled table act N event →
        StepAgrees table (net_step table act N event) (step table act S event)
    step_alike event spelled =
        step_agrees table stands.world.classes act N S stands.agrees
        (of_state LinksAreKept (links_kept.reached_keeps table act))
        (of_state CallsAreKept (calls_kept.reached_keeps table act))
        (of_state ClassesAreTold (reached_told table act)) event spelled

    -- the state after an event is one more that the machine comes to
    comes_after : (event : Event) → (step table act S event).state
        ≡ reached table act stands.seats (stands.events ++ event ∷ [])
    comes_after event =
        ap (λ T. (step table act T event).state) stands.comes
        ∙ sym (steps_more stands.events event (skipped (opening table stands.seats)))

    -- so the network then stands for it
    pub steps_as_one : (event : Event) → SendsSpelled table act N event → (told : Outcome)
        (after : Net) → told ≡ (net_step table act N event).outcome →
        after ≡ (net_step table act N event).net → StepsAsOne table act S event told after
    steps_as_one event spelled told after same is =
        let alike = step_alike event spelled in
        record {
          outcome = same ∙ alike.outcome;
          stands = record {
            seats = stands.seats;
            world = stands.world;
            events = stands.events ++ event ∷ [];
            comes = comes_after event;
            agrees = subst (λ M. Agrees table M (step table act S event).state) (sym is)
                alike.agrees;
          };
        }

    -- a node can take the same
    pub takes_as_one : (port from : ℕ) → net_can_take N port from ≡ machine_can_take S port from
    takes_as_one port from =
        go (part_at N port) ∙ ap (some_passes (can_take from))
        (stands.agrees.tallies.shows.nodes port)
      where
        go : (found : Option Part) → (elim found [
          | None ↦ false
          | Some p ↦ can_take from p.own.node
        ]) ≡ some_passes (can_take from) (option_map (λ (p : Part). p.own.node) found)
        go None = refl
        go (Some p) = refl

    -- the ports of a state are those of the opening
    ports_stay : ports S ≡ ports (opening table stands.seats)
    ports_stay =
        ap ports stands.comes
        ∙ holds_of_reached table act (λ T. ports T ≡ ports (opening table stands.seats))
        (λ T event same. step_ports table act T event ∙ same) stands.seats stands.events refl

    -- so all ports differ
    pub ports_differ : IsDistinct (λ (p q : ℕ). p == q) (ports S)
    ports_differ =
        let rise = opening_rises table stands.seats stands.world in
        let below = AllPairs-from_increasing (ports (opening table stands.seats)) rise in
        subst (IsDistinct (λ (p q : ℕ). p == q)) (sym ports_stay)
        (IsDistinct-from_AllPairs Decides-eqb (ports (opening table stands.seats))
        (λ i j d le within same. let less = below i j d le within in omega (arith, less, same)))

    -- a check lists the same
    pub lists_as_one : net_snapshot N ≡ snapshot S
    lists_as_one = snapshots_same table N S stands.agrees ports_differ

  -- events one after another keep it so
  steps_stand : (events : List Event) (a : NetStepped) (b : Stepped) →
      StandsFor table act a.net b.state → EventsSendSpelled table act a.net events →
      StandsFor table act (net_steps table act events a).net (steps table act events b).state
  steps_stand [] a b stands spelled = stands
  steps_stand (event ∷ events) a b stands spelled =
      let one = steps_as_one a.net b.state stands event spelled.0
      (net_step table act a.net event).outcome (net_step table act a.net event).net refl refl in
      steps_stand events _ _ one.stands spelled.1

  -- and so does a line of a schedule
  pub line_as_one : (N : Net) (S : State) → StandsFor table act N S → (line : Line) →
      EventsSendSpelled table act N (events_of line) →
      StandsFor table act (net_line_step table act N line).net (line_step table act S line).state
  line_as_one N S stands line spelled =
      steps_stand (events_of line) (net_skipped N) (skipped S) stands spelled
