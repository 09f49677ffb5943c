-- Numbers that nodes give, in every state that a machine comes to, by one view of its states.
use Rattle.std.proofs.Common.{◌≡◌, ◌≤◌, ℕ, true, List, subst, sym}
use Rattle.std.specs.{Prelude.Some, List.AllByRecursion}
use Rattle.do_base.specs.declared.events.event.Event.{Event}
use Rattle.do_class.specs.Class.{Class}
use Rattle.do_machine.specs.{declared.{item.Item.Item, state.{Seat.Seat, State.State}}, State.queue}
use Rattle.do_machine.specs.{Step.step, World.{opening, opening_node}, run.Run.Acting}
use Rattle.do_facts.specs.{ByEvents.IsBy, Moves.{Keeps, Reaches, Rules}, Net.Net, Reached.reached}
use Rattle.do_facts.{specs.View.{View, net_of, wire_seen}, proofs.OpeningAsNet.opening_parts}
use Rattle.do_facts.proofs.{OpeningAsNet.opening_wires, Paths.stays, ReachedStates.holds_of_reached}
use Rattle.do_limits.proofs.spelled.{Given.{AllGiven, IsGiven}, Wires.of_items}

module _ {P A V : Type 0} (view : View P A) (rules : Rules P A V) (next : P → ℕ)
    (kept : (ℕ → ℕ → Type 0) → P → Type 0) (told : (ℕ → ℕ → Type 0) → ℕ → ℕ → A → Type 0) where
  -- the numbers of a state were given
  abbrev pub GivenIn : State → Type 0
  GivenIn S = AllGiven rules next kept told (net_of view S)

  -- a node gave this number
  abbrev pub Gave : State → ℕ → ℕ → Type 0
  Gave S = IsGiven rules next kept told (net_of view S)

  -- a part as a machine opens: it gives numbers from 1 on, and those that it keeps were given
  abbrev pub Opens : State → P → Type 0
  Opens S p = ((peer : ℕ) → rules.opens p peer ≡ true → 1 ≤ next p) × kept (Gave S) p

  -- those of the items between two nodes
  pub items_given : (S : State) → GivenIn S → (from to : ℕ) (waiting : List Item) →
      queue S from to ≡ Some waiting →
      AllByRecursion (λ item. AllByRecursion (told (Gave S) from to) (view.atoms item)) waiting
  items_given S given from to waiting e =
      of_items (told (Gave S) from to) view.atoms waiting
      (subst (λ found. AllByRecursion (told (Gave S) from to) (wire_seen view found)) e
      (given.wires from to))

  module _ (Kept : State → Type 0) (Hold : Net P A → Type 0)
      (hold : (S : State) → Kept S → Hold (net_of view S))
      (keeps : Keeps rules (λ net. Hold net × AllGiven rules next kept told net))
      (table : List Class) (act : Acting)
      (step_keeps : (S : State) (event : Event) → Kept S → Kept (step table act S event).state)
      (step_moves : (S : State) (event : Event) → Kept S →
      Reaches rules (IsBy event) (net_of view S) (net_of view (step table act S event).state))
      (seats : List Seat) (opens : Kept (opening table seats))
      (absent : Opens (opening table seats) view.absent)
      (there : (all : List ℕ) (s : Seat) →
      Opens (opening table seats) (view.part (opening_node table all s))) where
    -- a step
    step_given : (S : State) (event : Event) → Kept S × GivenIn S →
        Kept (step table act S event).state × GivenIn (step table act S event).state
    step_given S event h = (
      step_keeps S event h.0,
      (stays rules (λ net. Hold net × AllGiven rules next kept told net) keeps (IsBy event)
          (net_of view S) (net_of view (step table act S event).state)
          (step_moves S event h.0) (hold S h.0, h.1)).1,
    )

    -- a machine opens so
    opening_given : GivenIn (opening table seats)
    opening_given =
        let S = opening table seats in
        let parts = opening_parts table seats view (λ port p. Opens S p) (λ port. absent) there in
        record {
          first = λ n. (parts n).0;
          parts = λ n. (parts n).1;
          wires = λ x y.
              subst (AllByRecursion (told (Gave S) x y)) (sym (opening_wires table seats view x y))
              tt;
        }

    -- the numbers in each state that a machine comes to
    pub reached_given : (events : List Event) → GivenIn (reached table act seats events)
    reached_given events =
        (holds_of_reached table act (λ S. Kept S × GivenIn S) step_given seats events
        (opens, opening_given)).1
