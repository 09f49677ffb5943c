-- A loss sends nothing, and nothing is received by it; and so it is of each event.
use Rattle.std.proofs.Common.{◌≤◌, ℕ, Bool, true, false, cond, List, not, refl}
use Rattle.std.specs.Prelude.{None, Option, Some, length, nat_lt, unwrap_or, suc}
use Rattle.do_base.specs.declared.events.event.Event.{Event, TheVariants.{Check, Close, Lose, Run}}
use Rattle.do_base.specs.declared.events.event.Event.TheVariants.{Start, Take, Timeout}
use Rattle.do_class.specs.{Class.Class, Table.IsTable}
use Rattle.do_machine.specs.{declared.state.State.State, State.is_open, run.Run.Acting}
use Rattle.do_network.specs.{Links.Part, Net.{Channel, Net, change_place, channel, part_at}}
use Rattle.do_network.specs.{Net.with_channel, Step.{net_skipped, net_stays, with_loss}}
use Rattle.do_limits.specs.SendableStates.{StateIsSendable}
use Rattle.do_agreement.proofs.agreement.GoesOn.{Goes}
use Rattle.do_within.{specs.Received.ReceivedWithin, proofs.events.ActEvents.close_within}
use Rattle.do_within.proofs.events.ActEvents.{run_within, start_within, timeout_within}
use Rattle.do_within.proofs.events.{TakeEvents.take_within, Within.{AfterSpelled, EventWithin}}
use Rattle.do_within.proofs.sites.Hands.{parts_kept, received_alike, received_still}

module _ (table : List Class) (act : Acting) (N : Net) (events : ℕ)
    (all : ReceivedWithin events N) (from to after : ℕ) where
  -- the network without what was lost
  abbrev K : Net
  K = change_place from (with_channel to (with_loss after)) N

  -- in which nothing more was received
  same_sites : ReceivedWithin (suc events) K
  same_sites =
      received_still table act events K
      (received_alike table act events N all K
      (parts_kept from (with_channel to (with_loss after)) (λ x. refl) (λ x. refl) N))

  -- by how much waits
  by_length : (b : Bool) → ReceivedWithin (suc events)
      (unwrap_or (cond b None (Some (net_stays K))) (net_skipped N)).net
  by_length true = received_still table act events N all
  by_length false = same_sites

  -- by the channel
  by_channel : (found : Option Channel) → ReceivedWithin (suc events) (unwrap_or (elim found [
    | None ↦ None
    | Some c ↦ cond (nat_lt (length c.waiting) after) None (Some (net_stays K))
  ]) (net_skipped N)).net
  by_channel None = received_still table act events N all
  by_channel (Some c) = by_length (nat_lt (length c.waiting) after)

  -- by the end of the reader
  by_end : (b : Bool) → ReceivedWithin (suc events)
      (unwrap_or (cond (not b) None (elim (channel N from to) [
        | None ↦ None
        | Some c ↦ cond (nat_lt (length c.waiting) after) None (Some (net_stays K))
      ])) (net_skipped N)).net
  by_end false = received_still table act events N all
  by_end true = by_channel (channel N from to)

  -- by the reader
  by_reader : (found : Option Part) → ReceivedWithin (suc events) (unwrap_or (elim found [
    | None ↦ None
    | Some p ↦ cond (not (is_open p.own.node from)) None (elim (channel N from to) [
      | None ↦ None
      | Some c ↦ cond (nat_lt (length c.waiting) after) None (Some (net_stays K))
    ])
  ]) (net_skipped N)).net
  by_reader None = received_still table act events N all
  by_reader (Some p) = by_end (is_open p.own.node from)

  -- a loss
  loss_within : EventWithin table act events N (Lose from to after)
  loss_within = record { sends = tt; received = by_reader (part_at N to) }

module _ (table : List Class) (t : IsTable table) (act : Acting) (N : Net) (S : State)
    (goes : Goes table N S) (ok : StateIsSendable table S) (events : ℕ)
    (small : suc events ≤ 70368744177664) (all : ReceivedWithin events N) where
  -- every event
  pub event_within : (event : Event) → AfterSpelled table act S event →
      EventWithin table act events N event
  event_within (Start port selector values) spelled =
      start_within table t act N S goes ok events small all port selector values spelled
  event_within (Run port) spelled =
      run_within table t act N S goes ok events small all port spelled
  event_within (Take port from) spelled =
      take_within table t act N S goes ok events small all port from spelled
  event_within (Close port peer) spelled =
      close_within table t act N S goes ok events small all port peer spelled
  event_within (Lose from to after) spelled = loss_within table act N events all from to after
  event_within (Timeout port) spelled =
      timeout_within table t act N S goes ok events small all port spelled
  event_within Check spelled =
      record { sends = tt; received = received_still table act events N all }
