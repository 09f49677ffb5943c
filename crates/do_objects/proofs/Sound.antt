-- Nodes open sound and stay so, slots are written by own acts, and freed objects do not return.
use Rattle.std.proofs.Common.{◌≡◌, ◌∙◌, ◌<◌, ℕ, List, [], ◌∷◌, map, sym, ap, subst}
use Rattle.std.specs.Prelude.{None, Some, option_and_then}
use Rattle.std.proofs.lemmas.Option.{option_and_then_some}
use Rattle.do_base.specs.{names.Names.ObjectName, declared.events.event.Event.Event}
use Rattle.do_class.specs.Class.{Class}
use Rattle.do_behave.specs.declared.invocation.Invocation.{Invocation}
use Rattle.do_machine.specs.declared.{node.{Node.Node, Stored.Stored}, state.Seat.Seat}
use Rattle.do_machine.specs.{declared.state.State.State, State.{node, stored}, Step.step}
use Rattle.do_machine.specs.{World.{by_port, opening}, run.{Changes.with_writes, Fresh.blank}}
use Rattle.do_machine.specs.run.Run.{Acting}
use Rattle.do_facts.proofs.{EachOfLists.each_of, OpeningAsNet.opened}
use Rattle.do_objects.specs.{OwnClass.{AllSound, IsSound}, Reached.{after, object_of, reached}}
use Rattle.do_objects.{specs.Writes.writes_to, proofs.{Finding.{not_new, there}, Kept.Became}}
use Rattle.do_objects.proofs.{Steps.{before_of, writes_at}, Whole.{Nothing, sound_of, whole_of}}

module _ (table : List Class) (act : Acting) (S : State) (event : Event) where
  -- the state after the event
  abbrev T : State
  T = (step table act S event).state

  -- the node of a port before the event
  pub before : (port : ℕ) (m : Node) → node T port ≡ Some m →
      (n : Node) × (node S port ≡ Some n)
      × Became Nothing (writes_at table act S event port) n m
  before = before_of table act S Nothing (λ m values signed few. tt) (λ i slots known. known) event

  -- sound nodes stay sound
  pub stays_sound : AllSound S → AllSound T
  stays_sound s = record {
    each = λ port m h.
        let was = before port m h in
        let known = each_of (λ (i : Invocation). Unit {0}) (λ i. tt) was.0.stack in
        sound_of Nothing m (was.2.whole (whole_of Nothing was.0 known (s.each port was.0 was.1)));
  }

  -- an object that is stored before and after has the writes of the event
  pub has_writes : (o : ObjectName) (x y : Stored) → object_of S o ≡ Some x →
      object_of T o ≡ Some y → y ≡ with_writes (writes_to table act S event o) x
  has_writes o x y h q =
      let found_in = option_and_then (λ (n : Node). stored o.serial n.heap) in
      option_and_then_some (λ (n : Node). stored o.serial n.heap) (node T o.node) y q
      (λ m now k.
      let was = before o.node m now in
      was.2.kept o.serial x y (ap found_in (sym was.1) ∙ h) k)

  -- an object that is stored no more, under a serial that was given, is not stored again
  pub never_returns : (port serial : ℕ) (n m : Node) → node S port ≡ Some n →
      serial < n.next_serial → stored serial n.heap ≡ None → node T port ≡ Some m →
      stored serial m.heap ≡ None
  never_returns port serial n m h old gone q =
      let was = before port m q in
      let is : was.0 ≡ n = there (node S port) was.0 n was.1 h in
      (subst (λ x. Became Nothing (writes_at table act S event port) x m) is was.2).gone serial old
      gone

-- what each event keeps, events one after another keep
pub after_keeps : (table : List Class) (act : Acting) (P : State → Type 0) →
    ((S : State) (event : Event) → P S → P (step table act S event).state) →
    (S : State) (events : List Event) → P S → P (after table act S events)
after_keeps table act P keeps S [] h = h
after_keeps table act P keeps S (event ∷ events) h =
    after_keeps table act P keeps (step table act S event).state events (keeps S event h)

-- a machine opens sound
pub opens_sound : (table : List Class) (seats : List Seat) → AllSound (opening table seats)
opens_sound table seats = record {
  each = opened table (map (λ s. s.node) (by_port seats)) (λ p. IsSound)
      (λ s. record {
        given = λ k h. not_new k 1 (blank table s.root ∷ []) (λ _. h);
        invocations = tt;
      })
      (by_port seats);
}

-- every state that is reached is sound
pub reached_sound : (table : List Class) (act : Acting) (seats : List Seat) (events : List Event) →
    AllSound (reached table act seats events)
reached_sound table act seats events =
    after_keeps table act AllSound (stays_sound table act) (opening table seats) events
    (opens_sound table seats)
