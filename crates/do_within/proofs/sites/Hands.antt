-- What the sites of a network have received once one of them was handed an input.
use Rattle.std.proofs.Common.{◌≡◌, ◌==◌, ℕ, Bool, true, false, List, refl, sym, ap, ◌∙◌, subst}
use Rattle.std.specs.Prelude.{None, Option, Some, find, option_map, unwrap_or, suc}
use Rattle.std.proofs.lemmas.Bool.{eqb-true}
use Rattle.do_class.specs.Class.{Class}
use Rattle.do_machine.specs.run.Run.{Acting}
use Rattle.do_network.specs.{declared.input.Input.Input, Links.Part, Net.{Net, Place, change_place}}
use Rattle.do_network.specs.{Net.{part_at, place_at}, Site.{Handled, enabled_input}}
use Rattle.do_network.specs.Step.{hands, net_moved, net_skipped, place_after}
use Rattle.do_agreement.proofs.places.KeyedLists.{found_changed, found_elsewhere}
use Rattle.do_agreement.proofs.places.PlacesChanged.{by_part, some_is}
use Rattle.do_within.specs.Received.{CountsWithin, ReceivedWithin}
use Rattle.do_within.proofs.sites.{Acts.DoesWithin, Exports.later_within}

-- a change of a place that keeps its site keeps all sites
pub parts_kept : (n : ℕ) (f : Place → Place) → ((x : Place) → (f x).port ≡ x.port) →
    ((x : Place) → (f x).part ≡ x.part) → (N : Net) (a : ℕ) →
    part_at (change_place n f N) a ≡ part_at N a
parts_kept n f keeps same N a = go (n == a) refl
  where
    kept : (o : Option Place) → option_map (λ (x : Place). x.part) (option_map f o)
        ≡ option_map (λ (x : Place). x.part) o
    kept None = refl
    kept (Some x) = ap (λ p. Some p) (same x)

    go : (b : Bool) → (n == a) ≡ b → part_at (change_place n f N) a ≡ part_at N a
    go true e =
        subst (λ k. part_at (change_place n f N) k ≡ part_at N k) (eqb-true n a e)
        (ap (option_map (λ (x : Place). x.part)) (found_changed (λ (x : Place). x.port) f keeps n
        N.places)
        ∙ kept (find (λ (x : Place). n == x.port) N.places))
    go false e =
        ap (option_map (λ (x : Place). x.part))
        (found_elsewhere (λ (x : Place). x.port) f keeps n a e N.places)

-- the place of a site
pub place_of : (N : Net) (port : ℕ) (p : Part) → part_at N port ≡ Some p →
    (pl : Place) × (place_at N port ≡ Some pl) × (pl.part ≡ p)
place_of N port p h = go (place_at N port) refl h
  where
    go : (o : Option Place) → place_at N port ≡ o →
        option_map (λ (x : Place). x.part) o ≡ Some p →
        (pl : Place) × (place_at N port ≡ Some pl) × (pl.part ≡ p)
    go None e k = absurd (cc)
    go (Some pl) e k = (pl, e, some_is pl.part p k)

module _ (table : List Class) (act : Acting) (events : ℕ) where
  -- whatever an input does to the site of a port, it sends what has a spelling and has received few
  abbrev pub HandsWithin : Net → ℕ → Input → Type 0
  HandsWithin N port input =
      (p : Part) → part_at N port ≡ Some p →
      (h : Handled) → enabled_input table act p input ≡ Some h → DoesWithin table events h

  module _ (N : Net) (all : ReceivedWithin events N) where
    -- the sites of the network, one event later
    pub received_still : ReceivedWithin (suc events) N
    received_still port p k = later_within p.own events (all port p k)

    -- so it is of a network with the same sites
    pub received_alike : (K : Net) → ((a : ℕ) → part_at K a ≡ part_at N a) →
        ReceivedWithin events K
    received_alike K same port p k = all port p (sym (same port) ∙ k)

  module _ (N K : Net) (all : ReceivedWithin events N) (of_K : ReceivedWithin events K)
      (port : ℕ) (input : Input) (does : HandsWithin K port input) where
    -- the network after the input
    after : (pl : Place) → place_at K port ≡ Some pl → (found : Option Handled) →
        enabled_input table act pl.part input ≡ found →
        ReceivedWithin (suc events)
        (unwrap_or (option_map (net_moved port K) found) (net_skipped N)).net
    after pl there None e = received_still N all
    after pl there (Some h) e =
        by_part port (place_after h) (λ x. refl) K pl there
        (λ a q. CountsWithin (suc events) q.own.received)
        (does pl.part (ap (option_map (λ (x : Place). x.part)) there) h e).received
        (λ a q ne k. later_within q.own events (of_K a q k))

    -- by the place of the site
    pub hands_received : ReceivedWithin (suc events)
        (unwrap_or (hands table act K port input) (net_skipped N)).net
    hands_received = go (place_at K port) refl
      where
        go : (found : Option Place) → place_at K port ≡ found →
            ReceivedWithin (suc events)
            (unwrap_or (elim (option_map (λ (x : Place). x.part) found) [
              | None ↦ None
              | Some p ↦ option_map (net_moved port K) (enabled_input table act p input)
            ]) (net_skipped N)).net
        go None e = received_still N all
        go (Some pl) e = after pl e (enabled_input table act pl.part input) refl
