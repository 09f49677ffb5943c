-- Over each bounded schedule each frame that is sent has a spelling.
use Rattle.std.proofs.Common.{◌≡◌, ◌<◌, ◌++◌, ℕ, List, [], ◌∷◌, length, append-nil, append_assoc}
use Rattle.std.proofs.Common.{refl, sym, ap, ◌∙◌, subst, arith}
use Rattle.std.{specs.{Prelude.suc, List.AllByRecursion}, proofs.lemmas.List.length-append}
use Rattle.do_base.specs.declared.events.event.Event.{Event}
use Rattle.do_class.specs.Class.{Class}
use Rattle.do_machine.specs.declared.state.{Seat.Seat, State.State, Stepped.Stepped}
use Rattle.do_machine.specs.{Commit.skipped, Step.step, World.{IsWorld, opening}}
use Rattle.do_machine.specs.{check.Blocks.{followed, steps}, run.Run.Acting}
use Rattle.do_network.specs.{Net.{Net, net_opening}, Step.{NetStepped, net_skipped, net_step}}
use Rattle.do_network.specs.Wired.{net_followed, net_steps}
use Rattle.do_facts.{specs.Reached.reached, proofs.links.ReachedNames.reached_made}
use Rattle.do_limits.specs.SendableActs.{AllStartSendable, KeepsSendable, StartsSendable}
use Rattle.do_limits.proofs.{Selectors.has_methods, numbers.Reached.reached_numbers}
use Rattle.do_limits.proofs.spelled.{Calls.calls_given, ItemFrames.waiting_spelled}
use Rattle.do_limits.proofs.{spelled.Tokens.tokens_given, states.Steps.reached_sendable}
use Rattle.do_agreement.specs.Along.{EventsSendSpelled}
use Rattle.do_agreement.proofs.agreement.GoesOn.{Goes, goes_on, opening_goes}
use Rattle.do_within.specs.Received.{ReceivedWithin, net_reached}
use Rattle.do_within.proofs.events.{LossEvents.event_within, Within.EventWithin}
use Rattle.do_within.proofs.{schedules.Opening.opening_within, sent.Effects.WaitsSpelled}
use Rattle.do_facts.proofs.EachOfLists.{each_former}

-- steps along two lists
steps_behind : (table : List Class) (act : Acting) (xs ys : List Event) (s : Stepped) →
    steps table act (xs ++ ys) s ≡ steps table act ys (steps table act xs s)
steps_behind table act [] ys s = refl
steps_behind table act (x ∷ xs) ys s =
    steps_behind table act xs ys (followed s (step table act s.state x))

-- What is known of the events so far, and of the network then
pub record SoFar (table : List Class) (act : Acting) (seats : List Seat) (before : List Event)
    (N : Net) : Type 0 where
  pub goes : Goes table N (reached table act seats before)
  pub received : ReceivedWithin (length before) N

module _ (table : List Class) (act : Acting) (seats : List Seat) (world : IsWorld table seats)
    (acts : KeepsSendable table act) where
  -- what waits in each state that is reached has a spelling
  waits_spelled : (events : List Event) → AllStartSendable events →
      length events < 70368744177664 → (port : ℕ) →
      WaitsSpelled table port (reached table act seats events)
  waits_spelled events starts few port to waiting e =
      let has = has_methods table world.classes world.signatures in
      waiting_spelled table (reached table act seats events)
      (reached_sendable table act has acts seats events world.seated starts) (length events)
      (reached_numbers table act has acts seats events world.seated starts) few port to
      (record {
        made = reached_made table act seats events;
        lent = tokens_given table act seats events;
        given = calls_given table act seats events;
      }) waiting e

  module _ (whole : List Event) (starts : AllStartSendable whole)
      (few : length whole < 70368744177664) where
    module _ (before : List Event) (event : Event) (events : List Event)
        (parts : before ++ event ∷ events ≡ whole) where
      -- the events up to this one
      abbrev now : List Event
      now = before ++ event ∷ []

      -- the others are behind
      split : now ++ events ≡ whole
      split = append_assoc before (event ∷ []) events ∙ parts

      -- they are one more
      one_more : length now ≡ suc (length before)
      one_more = let e = length-append before (event ∷ []) in omega (arith, e)

      -- they are no more than all
      still_few : length now < 70368744177664
      still_few =
          let e = length-append now events in
          let k = ap (λ es. length es) split in
          omega (arith, e, k, few)

      -- and so are those before
      starts_now : AllStartSendable now
      starts_now =
          each_former StartsSendable now events
          (subst (AllByRecursion StartsSendable) (sym split) starts)

      -- the state after this event
      step_then : reached table act seats now
          ≡ (step table act (reached table act seats before) event).state
      step_then = ap (λ (s : Stepped). s.state)
          (steps_behind table act before (event ∷ []) (skipped (opening table seats)))

      module _ (N : Net) (known : SoFar table act seats before N) where
        -- the state before it
        abbrev S : State
        S = reached table act seats before

        -- what the event does is within the limits
        within : EventWithin table act (length before) N event
        within =
            event_within table world.classes act N S known.goes
            (reached_sendable table act (has_methods table world.classes world.signatures) acts
            seats before world.seated
            (each_former StartsSendable before (event ∷ []) starts_now)) (length before)
            (omega (arith, one_more, still_few)) known.received event
            (λ port. subst (WaitsSpelled table port) step_then
            (waits_spelled now starts_now still_few port))

        -- and what is known holds after it
        known_then : SoFar table act seats now (net_step table act N event).net
        known_then = record {
          goes = subst (Goes table (net_step table act N event).net) (sym step_then)
              (goes_on table world.classes act N S known.goes event within.sends).1;
          received = subst (λ k. ReceivedWithin k (net_step table act N event).net) (sym one_more)
              within.received;
        }

    -- events one after another
    along : (events before : List Event) → before ++ events ≡ whole → (s : NetStepped) →
        SoFar table act seats before s.net →
        EventsSendSpelled table act s.net events
        × SoFar table act seats whole (net_steps table act events s).net
    along [] before parts s known = (
      tt,
      subst (λ es. SoFar table act seats es s.net) (sym (append-nil before) ∙ parts) known,
    )
    along (event ∷ events) before parts s known =
        let rest = along events (before ++ event ∷ []) (split before event events parts)
        (net_followed s (net_step table act s.net event))
        (known_then before event events parts s.net known) in
        (((within before event events parts s.net known).sends, rest.0), rest.1)

    -- from the opening, and what is known of the network at the end
    pub from_opening : EventsSendSpelled table act (net_opening table seats) whole
        × SoFar table act seats whole (net_reached table act seats whole)
    from_opening =
        along whole [] refl (net_skipped (net_opening table seats))
        (record { goes = opening_goes table seats; received = opening_within table seats })
