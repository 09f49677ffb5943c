-- The event of a take sends what has a spelling.
use Rattle.do_agreement.proofs.takes.Taking as takes
use Rattle.std.proofs.Common.{◌≡◌, ◌==◌, ◌&&◌, ◌≤◌, ℕ, Bool, true, false, cond, List, [], ◌∷◌, not}
use Rattle.std.{proofs.Common.{refl, sym, ap, ◌∙◌}, specs.Prelude.{None, Option, Some}}
use Rattle.std.specs.Prelude.{option_and_then, option_map, slice_get, suc, unwrap_or}
use Rattle.std.proofs.lemmas.Bool.{eqb-true}
use Rattle.do_base.specs.declared.events.event.Event.TheVariants.{Take}
use Rattle.do_class.specs.{Class.Class, Table.IsTable}
use Rattle.do_machine.specs.{declared.state.State.State, State.is_open, run.Run.Acting}
use Rattle.do_machine.specs.take.Take.{can_serve, can_take}
use Rattle.do_network.specs.{Links.Part, Net.{Carried, Channel, Lost, Net, Place, Whole, channel}}
use Rattle.do_network.specs.{Net.{channel_to, part_at, place_at, with_channel}, Site.Handled}
use Rattle.do_network.specs.{Site.enabled_input, Step.{advanced, hands, input_of, net_skipped}}
use Rattle.do_network.specs.fits.Notes.{Note, carried}
use Rattle.do_limits.specs.SendableStates.{StateIsSendable}
use Rattle.do_agreement.specs.{CountsFit.ChannelCarries, NetInHand.net_without}
use Rattle.do_agreement.proofs.{agreement.GoesOn.Goes, counts.MovesAccount.apart}
use Rattle.do_agreement.proofs.{places.PlacesChanged.some_is, takes.Taking.Taking}
use Rattle.do_within.specs.Received.{ReceivedWithin}
use Rattle.do_within.proofs.{events.Within.{AfterSpelled, EventWithin}, sites.Acts.DoesWithin}
use Rattle.do_within.proofs.sites.Hands.{HandsWithin, hands_received, parts_kept, place_of}
use Rattle.do_within.proofs.sites.{Hands.{received_alike, received_still}, Takes.take_does}

-- what is done only where a test passes
passed : (b : Bool) (done h : Handled) → cond (not b) None (Some done) ≡ Some h → b ≡ true
passed true done h q = refl
passed false done h q = absurd (cc)

-- the first of two tests that pass
former : (a b : Bool) → (a && b) ≡ true → a ≡ true
former true b h = refl
former false b h = absurd (cc)

module _ (table : List Class) (t : IsTable table) (act : Acting) (N : Net) (S : State)
    (goes : Goes table N S) (ok : StateIsSendable table S) (events : ℕ)
    (small : suc events ≤ 70368744177664) (all : ReceivedWithin events N) (port from : ℕ)
    (spelled : AfterSpelled table act S (Take port from)) where
  -- a site that does something for what stands in a channel can take it
  took : (p : Part) (y : Carried) (h : Handled) →
      enabled_input table act p (input_of from y) ≡ Some h → can_take from p.own.node ≡ true
  took p (Whole f) h q = passed (can_take from p.own.node) _ h q
  took p Lost h q = passed (can_take from p.own.node) _ h q

  module _ (pl : Place) (there : place_at N port ≡ Some pl) (c : Channel)
      (has : channel N from port ≡ Some c) (y : Carried) (first : slice_get c.waiting 0 ≡ Some y)
      (h : Handled) (q : enabled_input table act pl.part (input_of from y) ≡ Some h) where
    -- the site
    abbrev p : Part
    p = pl.part

    -- it is there
    site_there : part_at N port ≡ Some p
    site_there = ap (option_map (λ (x : Place). x.part)) there

    -- it can take
    can : can_take from p.own.node ≡ true
    can = took p y h q

    -- its end is open
    here : is_open p.own.node from ≡ true
    here = former (is_open p.own.node from) (can_serve p.own.node.stack) can

    -- so the sender is another
    other_port : (from == port) ≡ false
    other_port = go (from == port) refl
      where
        go : (b : Bool) → (from == port) ≡ b → b ≡ false
        go false e = refl
        go true e =
            absurd (apart (ap (λ k. is_open p.own.node k) (sym (eqb-true from port e)) ∙ here)
            (goes.agrees.tallies.counts.owns port p site_there).apart)

    module _ (pf : Place) (sender : place_at N from ≡ Some pf) where
      -- what stands between the two
      abbrev way : ChannelCarries table N from port pf.part p
          (goes.agrees.tallies.under_way from port)
      way = goes.agrees.tallies.counts.channels from port pf.part p
          (ap (option_map (λ (x : Place). x.part)) sender) site_there other_port

      -- what stands first there
      first_there : (d : Channel) → channel N from port ≡ Some d → slice_get d.waiting 0 ≡ Some y
      first_there d stands =
          ap (λ (z : Channel). slice_get z.waiting 0) (some_is d c (sym stands ∙ has)) ∙ first

      -- something is under way
      by_notes : (xs : List Note) → goes.agrees.tallies.under_way from port ≡ xs →
          DoesWithin table events h
      by_notes [] e =
          absurd (none (sym (ap (λ w. slice_get w 0)
          (way.carries.waiting ∙ ap (carried way.carries.tables.front) e))
          ∙ first_there way.between way.stands))
        where
          none : None ≡ Some y → ⊥
          none k = cc
      by_notes (x ∷ xs) e =
          let taking : Taking table act N S goes.agrees port from x xs = record {
            is_table = t;
            kept = goes.links;
            calls = goes.calls;
            told = goes.classes.told;
            pl = pl;
            pf = pf;
            there = there;
            sender = sender;
            can = can;
            here = here;
            first = e;
          } in
          let between = takes.way taking in
          take_does taking ok events small (all port p site_there) (spelled port) y
          (first_there between.between between.stands) h q

    -- the sender is there
    by_sender : (found : Option Place) → place_at N from ≡ found →
        option_and_then (channel_to port) found ≡ Some c → DoesWithin table events h
    by_sender None e k = absurd (cc)
    by_sender (Some pf) e k = by_notes pf e (goes.agrees.tallies.under_way from port) refl

  -- what the site does for what stands first
  take_hands : (c : Channel) → channel N from port ≡ Some c → (y : Carried) →
      slice_get c.waiting 0 ≡ Some y →
      HandsWithin table act events (net_without port from y N) port (input_of from y)
  take_hands c has y first p here h q =
      let at = place_of N port p
      (sym (parts_kept from (with_channel port (advanced y)) (λ x. refl) (λ x. refl) N port) ∙ here)
      in
      by_sender at.0 at.1 c has y first h
      (ap (λ x. enabled_input table act x (input_of from y)) at.2 ∙ q) (place_at N from) refl has

  -- ---- what was received

  -- by what stands first
  by_first : (c : Channel) → channel N from port ≡ Some c → (found : Option Carried) →
      slice_get c.waiting 0 ≡ found →
      ReceivedWithin (suc events) (unwrap_or (elim found [
        | None ↦ None
        | Some y ↦ hands table act (net_without port from y N) port (input_of from y)
      ]) (net_skipped N)).net
  by_first c has None e = received_still table act events N all
  by_first c has (Some y) e =
      let K = net_without port from y N in
      hands_received table act events N K all
      (received_alike table act events N all K
      (parts_kept from (with_channel port (advanced y)) (λ x. refl) (λ x. refl) N))
      port (input_of from y) (take_hands c has y e)

  -- by the channel
  by_channel : (found : Option Channel) → channel N from port ≡ found →
      ReceivedWithin (suc events) (unwrap_or (elim found [
        | None ↦ None
        | Some c ↦ elim (slice_get c.waiting 0) [
          | None ↦ None
          | Some y ↦ hands table act (net_without port from y N) port (input_of from y)
        ]
      ]) (net_skipped N)).net
  by_channel None e = received_still table act events N all
  by_channel (Some c) e = by_first c e (slice_get c.waiting 0) refl

  -- by whether the site can take
  by_can : (b : Bool) → ReceivedWithin (suc events) (unwrap_or (cond (not b) None
      (elim (channel N from port) [
        | None ↦ None
        | Some c ↦ elim (slice_get c.waiting 0) [
          | None ↦ None
          | Some y ↦ hands table act (net_without port from y N) port (input_of from y)
        ]
      ])) (net_skipped N)).net
  by_can false = received_still table act events N all
  by_can true = by_channel (channel N from port) refl

  -- by the site
  by_site : (found : Option Part) → ReceivedWithin (suc events) (unwrap_or (elim found [
    | None ↦ None
    | Some p ↦ cond (not (can_take from p.own.node)) None (elim (channel N from port) [
      | None ↦ None
      | Some c ↦ elim (slice_get c.waiting 0) [
        | None ↦ None
        | Some y ↦ hands table act (net_without port from y N) port (input_of from y)
      ]
    ])
  ]) (net_skipped N)).net
  by_site None = received_still table act events N all
  by_site (Some p) = by_can (can_take from p.own.node)

  -- a take
  pub take_within : EventWithin table act events N (Take port from)
  take_within = record {
    sends = λ c has y first p here h q. (take_hands c has y first p here h q).sent;
    received = by_site (part_at N port);
  }
