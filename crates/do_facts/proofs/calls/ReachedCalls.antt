-- Each call is in one place in every state that a machine comes to.
use Rattle.std.proofs.Common.{◌≡◌, ◌==◌, ℕ, true, false, not, List, [], ◌∷◌, filter, refl, sym, ap}
use Rattle.std.{proofs.Common.{◌∙◌, subst, arith}, specs.List.list_any}
use Rattle.std.proofs.lemmas.Bool.Decides.{nat_tests}
use Rattle.do_base.specs.declared.events.event.Event.{Event}
use Rattle.do_class.specs.Class.{Class}
use Rattle.do_machine.specs.{declared.state.{Seat.Seat, State.State}, Step.step, World.opening}
use Rattle.do_machine.specs.run.Run.{Acting}
use Rattle.do_facts.{proofs.machine.passing.Linked.{opening_queues, queues_stay}, specs.Net.Net}
use Rattle.do_facts.specs.{ByEvents.IsBy, Moves.Reaches, Reached.reached, View.{net_of, part_seen}}
use Rattle.do_facts.specs.calls.{Calls.{Atom, Calls, calls}, Facts.{AnswersAreKnown, CallsAreKept}}
use Rattle.do_facts.specs.calls.{Facts.CallsHold, Moves.{AreShaped, answered_call, call_rules}}
use Rattle.do_facts.{specs.calls.Moves.opens, proofs.ReachedStates.holds_of_reached}
use Rattle.do_facts.proofs.{OpeningAsNet.{opening_parts, opening_wires}, Paths.stays}
use Rattle.do_facts.proofs.{StepReaches.by_step, calls.Bridge.{IsShaped, call_bridge}}
use Rattle.do_facts.proofs.calls.{CallsKept.calls_keep, CallCounts.waits_at_most}

-- a node that waits for nothing, and is apart from itself
record IsNew (port : ℕ) (p : Calls) : Type 0 where
  stack : p.stack ≡ []
  late : p.late ≡ []
  apart : opens p port ≡ false

-- the other ports are not the own one
none_itself : (port : ℕ) (ps : List ℕ) →
    list_any (λ x. x == port) (filter (λ p. not (p == port)) ps) ≡ false
none_itself port [] = refl
none_itself port (p ∷ ps) = grind (arith, nat_tests, none_itself port ps)

-- where nothing is waited for or on its way, all holds
hold_of_new : (net : Net Calls Atom) → ((n : ℕ) → IsNew n (net.part n)) →
    ((n m : ℕ) → net.wire n m ≡ []) → CallsHold net
hold_of_new net new none = record {
  apart = λ n. (new n).apart;
  shaped = λ n. subst AreShaped (sym (new n).stack) tt;
  calls = λ n m k. grind (arith, nat_tests, none n m, none m n, (new m).stack);
  numbers = λ n k. grind (arith, nat_tests, (new n).stack, (new n).late);
}

-- an answer on its way to an open end is waited for by exactly one
pub answers_known : (net : Net Calls Atom) → CallsHold net → AnswersAreKnown net
answers_known net hold = record {
  methods = λ n m k d o h.
      omega (
        arith,
        h,
        (hold.calls n m k).methods d o,
        waits_at_most (net.part n)
            (answered_call m k false),
        (hold.numbers n k).once,
      );
  roots = λ n m k d o h.
      omega (
        arith,
        h,
        (hold.calls n m k).roots d o,
        waits_at_most (net.part n)
            (answered_call m k true),
        (hold.numbers n k).once,
      );
}

-- all of it holds as a machine opens
pub opening_keeps : (table : List Class) (seats : List Seat) → CallsAreKept (opening table seats)
opening_keeps table seats = record {
  queues = opening_queues table seats;
  hold = hold_of_new (net_of calls (opening table seats))
      (opening_parts table seats calls IsNew
      (λ port. record { stack = refl; late = refl; apart = refl })
      (λ all s. record { stack = refl; late = refl; apart = none_itself s.node all }))
      (opening_wires table seats calls);
}

module _ (table : List Class) (act : Acting) where
  -- every step is moves of calls
  pub step_moves : (S : State) (event : Event) → CallsAreKept S →
      Reaches call_rules (IsBy event) (net_of calls S) (net_of calls (step table act S event).state)
  step_moves S event kept =
      by_step calls call_rules IsShaped call_bridge S kept.queues
      (record {
        ends = λ port n h.
            ap (λ found. opens (part_seen calls found) port) (sym h) ∙ kept.hold.apart port;
      })
      (λ port n h. subst (λ found. IsShaped (part_seen calls found)) h (kept.hold.shaped port))
      table act event

  -- every step keeps all that holds
  pub step_keeps : (S : State) (event : Event) → CallsAreKept S →
      CallsAreKept (step table act S event).state
  step_keeps S event kept =
      let T = (step table act S event).state in
      record {
        queues = queues_stay table act S event kept.queues;
        hold = stays call_rules CallsHold calls_keep (IsBy event) (net_of calls S) (net_of calls T)
            (step_moves S event kept) kept.hold;
      }

  -- all of it holds in every state that a machine comes to
  pub reached_keeps : (seats : List Seat) (events : List Event) →
      CallsAreKept (reached table act seats events)
  reached_keeps seats events =
      holds_of_reached table act CallsAreKept step_keeps seats events (opening_keeps table seats)

  -- and so each answer that comes is known
  pub reached_known : (seats : List Seat) (events : List Event) →
      AnswersAreKnown (net_of calls (reached table act seats events))
  reached_known seats events =
      answers_known (net_of calls (reached table act seats events))
      (reached_keeps seats events).hold
