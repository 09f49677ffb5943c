-- Where events lead a network and the machine, they agree, and one event more comes to the same.
use Rattle.std.proofs.Common.{◌≡◌, ◌<◌, ◌++◌, ℕ, List, [], ◌∷◌, length, refl, ap, arith}
use Rattle.std.proofs.lemmas.List.{length-append}
use Rattle.do_base.specs.declared.events.event.Event.{Event}
use Rattle.do_class.specs.Class.{Class}
use Rattle.do_facts.{proofs.EachOfLists.each_former, specs.Reached.reached}
use Rattle.do_limits.specs.SendableActs.{AllStartSendable, KeepsSendable, StartsSendable}
use Rattle.do_machine.specs.{Commit.skipped, Step.step, World.{IsWorld, opening}}
use Rattle.do_machine.specs.{check.Blocks.{followed, steps}, declared.state.Seat.Seat}
use Rattle.do_machine.specs.{declared.state.Stepped.Stepped, run.Run.Acting}
use Rattle.do_network.specs.{Net.net_opening, Spelled.SendsSpelled, Step.{NetStepped, net_skipped}}
use Rattle.do_network.specs.{Step.net_step, Wired.{net_followed, net_steps}}
use Rattle.do_agreement.specs.Along.{EventsSendSpelled}
use Rattle.do_agreement.proofs.agreement.GoesOn.{Goes, goes_on, opening_goes}
use Rattle.do_within.{proofs.schedules.Walk.from_opening, specs.Received.net_reached}

-- how many events a schedule has fewer than
abbrev pub most_events : ℕ
most_events = 70368744177664

module _ (table : List Class) (act : Acting) where
  -- the machine's steps along two lists
  steps_behind : (xs ys : List Event) (s : Stepped) →
      steps table act (xs ++ ys) s ≡ steps table act ys (steps table act xs s)
  steps_behind [] ys s = refl
  steps_behind (x ∷ xs) ys s = steps_behind xs ys (followed s (step table act s.state x))

  -- and the network's
  net_behind : (xs ys : List Event) (s : NetStepped) →
      net_steps table act (xs ++ ys) s ≡ net_steps table act ys (net_steps table act xs s)
  net_behind [] ys s = refl
  net_behind (x ∷ xs) ys s = net_behind xs ys (net_followed s (net_step table act s.net x))

  -- what is sent in the last event has spellings
  last_spelled : (xs : List Event) (e : Event) (s : NetStepped) →
      EventsSendSpelled table act s.net (xs ++ e ∷ []) →
      SendsSpelled table act (net_steps table act xs s).net e
  last_spelled [] e s h = h.0
  last_spelled (x ∷ xs) e s h = last_spelled xs e (net_followed s (net_step table act s.net x)) h.1

module _ (table : List Class) (act : Acting) (seats : List Seat) (world : IsWorld table seats)
    (acts : KeepsSendable table act) where
  -- from a network that agrees
  along : (events : List Event) (s : NetStepped) (t : Stepped) → Goes table s.net t.state →
      EventsSendSpelled table act s.net events →
      Goes table (net_steps table act events s).net (steps table act events t).state
  along [] s t g spelled = g
  along (e ∷ es) s t g spelled =
      along es (net_followed s (net_step table act s.net e))
      (followed t (step table act t.state e))
      (goes_on table world.classes act s.net t.state g e spelled.0).1 spelled.1

  -- where events lead, the two agree
  pub goes_at : (events : List Event) → AllStartSendable events → length events < most_events →
      Goes table (net_reached table act seats events) (reached table act seats events)
  goes_at events starts few =
      along events (net_skipped (net_opening table seats)) (skipped (opening table seats))
      (opening_goes table seats) (from_opening table act seats world acts events starts few).0

  -- one event more, in the machine
  pub state_then : (events : List Event) (e : Event) →
      reached table act seats (events ++ e ∷ [])
      ≡ (step table act (reached table act seats events) e).state
  state_then events e =
      ap (λ (s : Stepped). s.state)
      (steps_behind table act events (e ∷ []) (skipped (opening table seats)))

  -- in the network
  pub net_then : (events : List Event) (e : Event) →
      net_reached table act seats (events ++ e ∷ [])
      ≡ (net_step table act (net_reached table act seats events) e).net
  net_then events e =
      ap (λ (s : NetStepped). s.net)
      (net_behind table act events (e ∷ []) (net_skipped (net_opening table seats)))

  -- both come to the same
  pub same_outcome : (events : List Event) (e : Event) → AllStartSendable (events ++ e ∷ []) →
      length (events ++ e ∷ []) < most_events →
      (net_step table act (net_reached table act seats events) e).outcome
      ≡ (step table act (reached table act seats events) e).outcome
  same_outcome events e starts few =
      let more = length-append events (e ∷ []) in
      (goes_on table world.classes act (net_reached table act seats events)
      (reached table act seats events)
      (goes_at events (each_former StartsSendable events (e ∷ []) starts)
      (omega (arith, more, few))) e
      (last_spelled table act events e (net_skipped (net_opening table seats))
      (from_opening table act seats world acts (events ++ e ∷ []) starts few).0)).0
