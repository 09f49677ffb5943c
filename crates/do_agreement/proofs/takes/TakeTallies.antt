-- A network tallies with the state after a node took an item.
use Rattle.do_machine.specs.declared.item.Item.TheVariants as items
use Rattle.do_network.specs.declared.input.Done.TheVariants as dones
use Rattle.do_agreement.proofs.hands.HandSites as sites
use Rattle.do_agreement.proofs.takes.Taking as takes
use Rattle.std.proofs.Common.{◌≡◌, ◌==◌, ◌&&◌, ℕ, Bool, true, false, List, [], ◌∷◌, refl, sym, ap}
use Rattle.std.{proofs.Common.{◌∙◌, filter, not, subst, arith}, specs.List.list_any}
use Rattle.std.proofs.lemmas.Bool.{eqb-true, Decides.nat_tests}
use Rattle.do_class.specs.Class.{Class}
use Rattle.do_machine.specs.declared.{item.Item.Item, node.Node.Node, state.Effect.Effect}
use Rattle.do_machine.specs.{declared.state.State.State, Commit.moved, Context.Context}
use Rattle.do_machine.specs.{Context.Surroundings, State.is_open, ends.Closing.{asked_of, closing}}
use Rattle.do_machine.specs.{ends.Closing.parted, run.Run.Acting, take.Take.{holding, take_effect}}
use Rattle.do_facts.specs.{Net.noted, View.AreMoves, links.Links.{atoms, links, links_of}}
use Rattle.do_facts.specs.links.{Moves.link_rules, Sound.IsSound}
use Rattle.do_facts.proofs.{links.Bridge.link_bridge, walk.SmallEffects.settled_node}
use Rattle.do_network.specs.{Frames.item_of, Links.Part, Net.Net, Site.{Handled, handled, moves}}
use Rattle.do_network.specs.{Site.site_move, Spelled.SentSpelled, Step.{NetStepped, net_moved}}
use Rattle.do_network.specs.{Step.place_after, fits.Notes.{Note, note_frame}}
use Rattle.do_agreement.specs.NetInHand.{closes_for, ends, part_in_hand, with_part}
use Rattle.do_agreement.specs.{Tallies.Tallies, Agrees.Agrees}
use Rattle.do_agreement.proofs.hands.{HandSites.{Hand, keeps_part, there_still}, HandFits.hand_fits}
use Rattle.do_agreement.proofs.{hands.HandShows.hand_shows, commits.MoveTallies.move_tallies}
use Rattle.do_agreement.proofs.{commits.MoveTallies.shown_alike, places.PlacesChanged.place_here}
use Rattle.do_agreement.proofs.places.{PlacesChanged.place_twice, StepAsCommits.two_commits}
use Rattle.do_agreement.proofs.{sites.RuleEffects.take_is_effect, places.Numbers.flipped}
use Rattle.do_agreement.proofs.{commits.Moving.Commits, acts.StepTallies.{sound_after, sound_here}}
use Rattle.do_agreement.proofs.takes.Taking.{Taking, node_there, site_there}

-- an end that is closed is closed
closed_end : (from : ℕ) (ps : List ℕ) →
    list_any (λ k. k == from) (filter (λ k. not (k == from)) ps) ≡ false
closed_end from [] = refl
closed_end from (k ∷ ps) = grind (arith, nat_tests, closed_end from ps)

-- so it is once a node closed it
closing_closes : (from : ℕ) (n : Node) → is_open (closing from n).node from ≡ false
closing_closes from n =
    ap (λ (m : Node). is_open m from) (settled_node (asked_of from n) (parted from n))
    ∙ closed_end from n.open_to

-- a node that takes an end closes its own
end_closes : (c : Context) (from : ℕ) (x : Note) → ends x.item ≡ true →
    is_open (take_effect c from (item_of (note_frame x))).node from ≡ false
end_closes c from x = go x.item
  where
    go : (item : Item) → ends item ≡ true → is_open (take_effect c from (item_of (note_frame
        (record { item = item; amount = x.amount; lost = x.lost })))).node from ≡ false
    go (items.End serials) e = closing_closes from (holding [] c.node)
    go _ e = absurd (cc)

module _ {table : List Class} {act : Acting} {N : Net} {S : State} {agrees : Agrees table N S}
    {port from : ℕ} {x : Note} {xs : List Note}
    (taking : Taking table act N S agrees port from x xs) (around : Surroundings) where
  -- the site
  abbrev p : Part
  p = taking.pl.part

  -- the item in hand
  abbrev hand : Hand table port from N agrees.tallies.under_way x xs
  hand = takes.hand taking

  -- what the take is judged by
  abbrev judged : Context
  judged = record { table = table; around = around; node = p.own.node }

  -- the effect of the item
  abbrev e : Effect
  e = take_effect judged from (item_of (note_frame x))

  -- the site with the item in hand
  abbrev site : Part
  site = part_in_hand from x p

  -- the node is sound
  sound_there : IsSound (links_of p.own.node)
  sound_there = sound_here S taking.kept port p.own.node (node_there taking)

  -- the effect is moves
  pub take_moves : AreMoves links link_rules p.own.node
      (noted from (atoms (item_of (note_frame x)))) e
  take_moves = link_bridge.take judged from (item_of (note_frame x)) taking.here sound_there

  -- the node is sound after the effect
  pub take_sound : IsSound (links_of e.node)
  take_sound =
      sound_after S taking.kept port p.own.node (node_there taking)
      (noted from (atoms (item_of (note_frame x)))) e take_moves

  -- an end that closes is closed
  shuts : (m : ℕ) → closes_for port from x port m ≡ true → is_open e.node m ≡ false
  shuts m c =
      let both = passes (ends x.item) (port == port) (m == from) c in
      ap (λ k. is_open e.node k) (eqb-true m from both.1) ∙ end_closes judged from x both.0
    where
      passes : (a b d : Bool) → (a && (b && d)) ≡ true → (a ≡ true) × (d ≡ true)
      passes true true true h = (refl, refl)
      passes true true false h = absurd (cc)
      passes true false d h = absurd (cc)
      passes false b d h = absurd (cc)

  -- and no other node closes one
  others : (a m : ℕ) → (port == a) ≡ false → closes_for port from x a m ≡ false
  others a m ne = go (ends x.item) (flipped port a ne)
    where
      go : (b : Bool) → (a == port) ≡ false → (b && ((a == port) && (m == from))) ≡ false
      go true h = ap (λ k. k && (m == from)) h
      go false h = refl

  -- a node that takes has the effect, with the item in hand
  pub take_commits : Commits table port p.own.node (sites.H hand) (sites.now hand) (takes.T taking)
      (closes_for port from x) (with_part site taking.pl) e
  take_commits = record {
    fit = hand_fits hand;
    shows = hand_shows hand agrees.tallies.shows;
    there = place_here port (with_part site) (keeps_part hand) (sites.K hand) taking.pl
        (there_still hand);
    is = take_is_effect judged from (item_of (note_frame x)) taking.here sound_there
        (agrees.tallies.counts.owns port p (site_there taking)).reached;
    shuts = shuts;
    others = others;
  }

  -- what the site does replaces it
  hand_replaced : (h : Handled) →
      (net_moved port (sites.K hand) h).net ≡ (net_moved port (sites.H hand) h).net
  hand_replaced h =
      sym (place_twice port (with_part site) (place_after h) (keeps_part hand) (sites.K hand))

  module _ (spelled : SentSpelled table (moves site e)) where
    -- what the network does
    abbrev does : NetStepped
    does = net_moved port (sites.K hand) (handled site dones.Moved (site_move site.own e))

    -- a node takes an item
    pub take_tallies : Tallies table does.net (moved port (takes.T taking) e).state
    take_tallies =
        subst (λ M. Tallies table M (moved port (takes.T taking) e).state)
        (sym (hand_replaced (handled site dones.Moved (site_move site.own e))
        ∙ two_commits port site e dones.Moved (sites.H hand)))
        (move_tallies take_commits take_sound spelled)

    -- and shows what the machine's node shows
    pub take_outcome : does.outcome ≡ (moved port (takes.T taking) e).outcome
    take_outcome = shown_alike take_commits take_sound spelled
