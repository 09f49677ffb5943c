-- In every state that a machine comes to, each node refers to what it holds.
use Rattle.std.proofs.Common.{◌≡◌, ℕ, Bool, List, [], refl, sym, ap, ◌∙◌, subst}
use Rattle.std.specs.Prelude.{Option, Some, map, unwrap_or}
use Rattle.do_base.specs.declared.events.event.Event.{Event}
use Rattle.do_class.specs.Class.{Class}
use Rattle.do_packet.specs.Met.{has_object}
use Rattle.do_machine.specs.{declared.{node.Node.Node, state.{Seat.Seat, State.State}}, State.node}
use Rattle.do_machine.specs.{Step.step, World.{by_port, opening}, held.Kept.kept}
use Rattle.do_machine.specs.{held.{Leaving.{freeing, leaving}, Refers.node_objects}, run.Run.Acting}
use Rattle.do_machine.proofs.Having.{passes_among}
use Rattle.do_facts.specs.{Reached.reached, steps.Held.{AllReferToHeld, RefersToHeld}}
use Rattle.do_facts.proofs.{OpeningAsNet.opened, ReachedStates.holds_of_reached}
use Rattle.do_facts.proofs.steps.NodeSteps.{Acted, NodeStep, Stands, Took, node_step}

-- ---- nodes after a step

-- what holds of a node that left what it does without, and of the node of a port before an event,
-- holds of the node of the port after it
after_step : (P : Node → Type 0) → ((entry : ℕ → ℕ → Bool) (m : Node) →
    P (leaving entry m).node) → {table : List Class} {act : Acting} {S : State} {event : Event}
    {port : ℕ} (now : Option Node) → NodeStep table act S event port now →
    ((n : Node) → node S port ≡ Some n → P n) → (m : Node) → now ≡ Some m → P m
after_step P left now (Stands same) before m h = before m (sym same ∙ h)
after_step P left now (Acted n e entry own here rule there) before m h =
    subst P (ap (λ x. unwrap_or x m) (sym there ∙ h)) (left entry e.node)
after_step P left now (Took from n item behind e entry is here waits rule there) before m h =
    subst P (ap (λ x. unwrap_or x m) (sym there ∙ h)) (left entry e.node)

-- ---- what is held

-- a node that left what it does without refers to what it holds
pub left_refers : (entry : ℕ → ℕ → Bool) (n : Node) → RefersToHeld (leaving entry n).node
left_refers entry n o h =
    let m = (freeing (kept entry n) n).node in
    passes_among (has_object (node_objects m)) m.held o h

-- a node that opens holds nothing
pub opening_refers : (table : List Class) (seats : List Seat) →
    AllReferToHeld (opening table seats)
opening_refers table seats = record {
  each = λ port n h o q.
      let sorted = by_port seats in
      let all = map (λ s. s.node) sorted in
      let none = opened table all (λ p m. m.held ≡ []) (λ s. refl) sorted port n h in
      absurd (cc (none, q));
}

-- a step
pub step_refers : (table : List Class) (act : Acting) (S : State) (event : Event) →
    AllReferToHeld S → AllReferToHeld (step table act S event).state
step_refers table act S event h = record {
  each = λ port m here.
      after_step RefersToHeld left_refers (node (step table act S event).state port)
      (node_step table act S event port) (h.each port) m here;
}

-- every state that a machine comes to
pub reached_refers : (table : List Class) (act : Acting) (seats : List Seat)
    (events : List Event) → AllReferToHeld (reached table act seats events)
reached_refers table act seats events =
    holds_of_reached table act AllReferToHeld (step_refers table act) seats events
    (opening_refers table seats)
