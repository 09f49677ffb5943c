-- What one event does to a network whose site is handed an input.
use Rattle.do_base.specs.declared.events.event.Event.TheVariants as events
use Rattle.do_network.specs.declared.input.Done.TheVariants as done
use Rattle.std.proofs.Common.{◌≡◌, ℕ, Bool, true, false, cond, not, List, length, refl, sym, ap}
use Rattle.std.{proofs.Common.{◌∙◌, arith}, specs.Prelude.{None, Option, Some, is_some, nat_lt}}
use Rattle.std.specs.Prelude.{option_and_then, option_map, slice_get, unwrap_or}
use Rattle.std.proofs.lemmas.Bool.{and_parts, Decides.nat_tests}
use Rattle.do_class.specs.Class.{Class}
use Rattle.do_facts.specs.Reached.{reached}
use Rattle.do_machine.specs.{State.is_open, declared.{node.Node.Node, state.Effect.Effect}}
use Rattle.do_machine.specs.{run.Run.Acting, take.Take.{can_serve, can_take}}
use Rattle.do_network.specs.{declared.input.Input.Input, Links.Part}
use Rattle.do_network.specs.Net.{Carried, Channel, Net, Place, change_place, channel, channel_to}
use Rattle.do_network.specs.Net.{part_at, place_at, with_channel}
use Rattle.do_network.specs.{Site.{Handled, enabled_input, moves}, Step.{advanced, hands, input_of}}
use Rattle.do_network.specs.Step.{net_moved, net_skipped, net_stays, net_step, with_loss}
use Rattle.do_agreement.proofs.places.PlacesChanged.{some_is}

-- the input of an effect that is there is done
pub moved_done : (p : Part) (found : Option Effect) (h : Handled) →
    option_map (moves p) found ≡ Some h → h.done ≡ done.Moved
moved_done p None h e = absurd (cc)
moved_done p (Some effect) h e = ap (λ (g : Handled). g.done) (sym (some_is (moves p effect) h e))

-- what is done unless a test passes: it does not, and it is done
pub guarded : (test : Bool) (g h : Handled) → cond (not test) None (Some g) ≡ Some h →
    (test ≡ true) × (g ≡ h)
guarded true g h e = (refl, some_is g h e)
guarded false g h e = absurd (cc)

-- a node that takes from a peer has an open end towards it
pub open_towards : (from : ℕ) (n : Node) → can_take from n ≡ true → is_open n from ≡ true
open_towards from n h = (and_parts (is_open n from) (can_serve n.stack) h).0

-- the place at which a site is
pub place_of : (N : Net) (port : ℕ) → is_some (part_at N port) ≡ true →
    (x : Place) × (place_at N port ≡ Some x)
place_of N port h = go (place_at N port) h
  where
    go : (o : Option Place) → is_some (option_map (λ (x : Place). x.part) o) ≡ true →
        (x : Place) × (o ≡ Some x)
    go None h = absurd (cc)
    go (Some x) h = (x, refl)

module _ (table : List Class) (act : Acting) where
  -- a site is handed an input
  pub hands_so : (M : Net) (port : ℕ) (i : Input) (pl : Place) (h : Handled) →
      place_at M port ≡ Some pl → enabled_input table act pl.part i ≡ Some h →
      hands table act M port i ≡ Some (net_moved port M h)
  hands_so M port i pl h there does =
      ap (λ o. elim (option_map (λ (x : Place). x.part) o) [
        | None ↦ None
        | Some p ↦ option_map (net_moved port M) (enabled_input table act p i)
      ]) there ∙ ap (option_map (net_moved port M)) does

  -- what stands first in a channel is taken
  pub takes_so : (N : Net) (port from : ℕ) (pl pf : Place) (c : Channel) (x : Carried)
      (h : Handled) →
      place_at N port ≡ Some pl → can_take from pl.part.own.node ≡ true →
      place_at N from ≡ Some pf → channel_to port pf ≡ Some c → slice_get c.waiting 0 ≡ Some x →
      place_at (change_place from (with_channel port (advanced x)) N) port ≡ Some pl →
      enabled_input table act pl.part (input_of from x) ≡ Some h →
      net_step table act N (events.Take port from)
      ≡ net_moved port (change_place from (with_channel port (advanced x)) N) h
  takes_so N port from pl pf c x h there can sender stands first still does =
      ap (λ o. unwrap_or o (net_skipped N))
      (ap (λ o. elim (option_map (λ (y : Place). y.part) o) [
        | None ↦ None
        | Some p ↦ cond (not (can_take from p.own.node)) None (elim (channel N from port) [
          | None ↦ None
          | Some d ↦ elim (slice_get d.waiting 0) [
            | None ↦ None
            | Some y ↦ hands table act (change_place from (with_channel port (advanced y)) N) port
                (input_of from y)
          ]
        ])
      ]) there
      ∙ ap (λ b. cond (not b) None (elim (channel N from port) [
        | None ↦ None
        | Some d ↦ elim (slice_get d.waiting 0) [
          | None ↦ None
          | Some y ↦ hands table act (change_place from (with_channel port (advanced y)) N) port
              (input_of from y)
        ]
      ])) can
      ∙ ap (λ o. elim (option_and_then (channel_to port) o) [
        | None ↦ None
        | Some d ↦ elim (slice_get d.waiting 0) [
          | None ↦ None
          | Some y ↦ hands table act (change_place from (with_channel port (advanced y)) N) port
              (input_of from y)
        ]
      ]) sender
      ∙ ap (λ o. elim o [
        | None ↦ None
        | Some d ↦ elim (slice_get d.waiting 0) [
          | None ↦ None
          | Some y ↦ hands table act (change_place from (with_channel port (advanced y)) N) port
              (input_of from y)
        ]
      ]) stands
      ∙ ap (λ o. elim o [
        | None ↦ None
        | Some y ↦ hands table act (change_place from (with_channel port (advanced y)) N) port
            (input_of from y)
      ]) first
      ∙ hands_so (change_place from (with_channel port (advanced x)) N) port (input_of from x) pl h
      still does)

  -- what a peer sent is lost
  pub loses_so : (N : Net) (port from : ℕ) (pl pf : Place) (c : Channel) →
      place_at N port ≡ Some pl → is_open pl.part.own.node from ≡ true →
      place_at N from ≡ Some pf → channel_to port pf ≡ Some c →
      net_step table act N (events.Lose from port 0)
      ≡ net_stays (change_place from (with_channel port (with_loss 0)) N)
  loses_so N port from pl pf c there reached sender stands =
      ap (λ o. unwrap_or o (net_skipped N))
      (ap (λ o. elim (option_map (λ (y : Place). y.part) o) [
        | None ↦ None
        | Some p ↦ cond (not (is_open p.own.node from)) None (elim (channel N from port) [
          | None ↦ None
          | Some d ↦ cond (nat_lt (length d.waiting) 0) None
              (Some (net_stays (change_place from (with_channel port (with_loss 0)) N)))
        ])
      ]) there
      ∙ ap (λ b. cond (not b) None (elim (channel N from port) [
        | None ↦ None
        | Some d ↦ cond (nat_lt (length d.waiting) 0) None
            (Some (net_stays (change_place from (with_channel port (with_loss 0)) N)))
      ])) reached
      ∙ ap (λ o. elim (option_and_then (channel_to port) o) [
        | None ↦ None
        | Some d ↦ cond (nat_lt (length d.waiting) 0) None
            (Some (net_stays (change_place from (with_channel port (with_loss 0)) N)))
      ]) sender
      ∙ ap (λ o. elim o [
        | None ↦ None
        | Some d ↦ cond (nat_lt (length d.waiting) 0) None
            (Some (net_stays (change_place from (with_channel port (with_loss 0)) N)))
      ]) stands
      ∙ ap (λ b. cond b None
      (Some (net_stays (change_place from (with_channel port (with_loss 0)) N))))
      (never_below (length c.waiting)))
    where
      -- no number is below 0
      never_below : (n : ℕ) → nat_lt n 0 ≡ false
      never_below n = grind (arith, nat_tests)
