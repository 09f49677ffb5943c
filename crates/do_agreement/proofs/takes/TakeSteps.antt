-- The event of a take keeps a network in agreement with the state.
use Rattle.do_network.specs.declared.input.Done.TheVariants as dones
use Rattle.do_agreement.proofs.takes.Taking as takes
use Rattle.do_agreement.proofs.takes.MachineTakes as machine
use Rattle.std.proofs.Common.{◌≡◌, ◌==◌, ◌&&◌, ℕ, Bool, true, false, List, [], ◌∷◌, map, refl, sym}
use Rattle.std.proofs.Common.{ap, ◌∙◌, cond, subst, not}
use Rattle.std.specs.Prelude.{None, Option, Some, is_some, option_map, slice_get, unwrap_or}
use Rattle.std.proofs.lemmas.Bool.{eqb-true}
use Rattle.do_base.specs.declared.events.event.Event.TheVariants.{Take}
use Rattle.do_class.specs.{Class.Class, Table.IsTable}
use Rattle.do_machine.specs.declared.{item.Item.Item, node.Node.Node, state.State.State}
use Rattle.do_machine.specs.{Commit.{moved, skipped}, Context.around, State.{is_open, node, queue}}
use Rattle.do_machine.specs.{run.Run.Acting, take.Take.{can_serve, can_take, take_effect}}
use Rattle.do_machine.specs.{declared.state.Stepped.Stepped, Step.step}
use Rattle.do_facts.specs.{calls.Facts.CallsAreKept, links.LinksAreKept.LinksAreKept}
use Rattle.do_coder.specs.declared.recent.pair.Pair.{Pair}
use Rattle.do_network.specs.{Frames.item_of, Links.Part, Net.{Carried, Channel, Net, Place}}
use Rattle.do_network.specs.{Net.{channel, part_at, place_at}, Own.counted_around}
use Rattle.do_network.specs.Site.{enabled_input, handled, moves, released_by, site_move}
use Rattle.do_network.specs.Spelled.{SendsSpelled, SentSpelled}
use Rattle.do_network.specs.Step.{NetStepped, hands, input_of, net_moved, net_skipped, net_step}
use Rattle.do_network.specs.fits.Notes.{Note, carried, note_frame}
use Rattle.do_agreement.specs.{Agrees.{Agrees, StepAgrees}, Classed.ClassesAreTold, InHand.in_hand}
use Rattle.do_agreement.specs.NetInHand.{carried_as, net_without, part_in_hand}
use Rattle.do_agreement.specs.CountsFit.{ChannelCarries}
use Rattle.do_agreement.proofs.{acts.ActsAgree.{node_is, skip_agrees}, takes.TakesAlike.hand_done}
use Rattle.do_agreement.proofs.{counts.MovesAccount.apart, takes.Taking.{Taking, waits}}
use Rattle.do_agreement.proofs.{hands.HandSites.there_still, takes.TakeEvents.{one_effect, site_is}}
use Rattle.do_agreement.proofs.takes.{TakeEvents.take_agrees, TakenFrame.{input_done, stands_first}}

module _ (table : List Class) (t : IsTable table) (act : Acting) (N : Net) (S : State)
    (agrees : Agrees table N S) (kept : LinksAreKept S) (calls : CallsAreKept S)
    (told : ClassesAreTold S) (port from : ℕ)
    (spelled : SendsSpelled table act N (Take port from)) where
  -- what is under way
  abbrev under_way : ℕ → ℕ → List Note
  under_way = agrees.tallies.under_way

  -- what the network does with what waits
  abbrev net_of : List Carried → Option NetStepped
  net_of w = elim (slice_get w 0) [
    | None ↦ None
    | Some y ↦ hands table act (net_without port from y N) port (input_of from y)
  ]

  -- and with a channel
  abbrev net_from : Option Channel → Option NetStepped
  net_from found = elim found [ None ↦ None | Some c ↦ net_of c.waiting ]

  -- the state with these items left in the queue
  abbrev left : List Item → State
  left = machine.left table S port from

  -- what the machine does with a queue
  abbrev machine_from : Node → Option (List Item) → Option Stepped
  machine_from = machine.machine_from table S port from

  -- and with a node
  abbrev machine_by : Option Node → Option Stepped
  machine_by = machine.machine_by table S port from

  -- both come to the same
  abbrev Same : Option NetStepped → Option Stepped → Type 0
  Same s u = StepAgrees table (unwrap_or s (net_skipped N)) (unwrap_or u (skipped S))

  -- nothing is done
  none : Same None None
  none = skip_agrees table act N S agrees kept told

  module _ (pl pf : Place) (there : place_at N port ≡ Some pl) (sender : place_at N from ≡ Some pf)
      (can : can_take from pl.part.own.node ≡ true)
      (here : is_open pl.part.own.node from ≡ true) where
    -- the site
    abbrev p : Part
    p = pl.part

    -- it is there
    site_there : part_at N port ≡ Some p
    site_there = ap (option_map (λ y. y.part)) there

    -- and the sender
    sender_there : part_at N from ≡ Some pf.part
    sender_there = ap (option_map (λ y. y.part)) sender

    module _ (x : Note) (xs : List Note) (first : under_way from port ≡ x ∷ xs) where
      -- the take
      abbrev taking : Taking table act N S agrees port from x xs
      taking = record {
        is_table = t;
        kept = kept;
        calls = calls;
        told = told;
        pl = pl;
        pf = pf;
        there = there;
        sender = sender;
        can = can;
        here = here;
        first = first;
      }

      -- the channel
      abbrev here_way : ChannelCarries table N from port pf.part p (under_way from port)
      here_way = takes.way taking

      -- the names by which the item is spelled
      abbrev front : List Pair
      front = takes.names taking

      -- the item stands first in the channel
      waiting : (rest : List Carried)
          × (here_way.between.waiting ≡ carried_as front x ∷ rest)
      waiting = stands_first taking

      -- what the input does
      done : enabled_input table act p (input_of from (carried_as front x))
          ≡ Some (hand_done table act p from can x)
      done = input_done taking

      -- what the site sends for the item has a spelling
      sent_spelled : SentSpelled table (hand_done table act p from can x)
      sent_spelled =
          spelled here_way.between here_way.stands (carried_as front x)
          (ap (λ w. slice_get w 0) waiting.1) p
          (ap (option_map (λ (y : Place). y.part)) (there_still (takes.hand taking)))
          (hand_done table act p from can x) done

      -- the item is taken
      taken : Same (net_from (channel N from port))
          (machine_from p.own.node (queue S from port))
      taken =
          let is = site_is taking in
          let alike = one_effect taking in
          let K = net_without port from (carried_as front x) N in
          subst (λ found. Same (net_from found) (machine_from p.own.node (queue S from port)))
          (sym here_way.stands)
          (subst (λ w. Same (net_of w) (machine_from p.own.node (queue S from port)))
          (sym waiting.1)
          (subst (λ found. Same (net_of (carried_as front x ∷ waiting.0))
          (machine_from p.own.node found))
          (sym (waits taking))
          (subst (λ found. Same (elim found [
            | None ↦ None
            | Some r ↦ option_map (net_moved port K)
                (enabled_input table act r (input_of from (carried_as front x)))
          ]) (machine_from p.own.node (Some (x.item ∷ map (λ (y : Note). y.item) xs))))
          (sym (ap (option_map (λ (y : Place). y.part)) (there_still (takes.hand taking))))
          (subst (λ h. Same (option_map (net_moved port K) h)
          (machine_from p.own.node (Some (x.item ∷ map (λ (y : Note). y.item) xs)))) (sym done)
          (subst (λ e. StepAgrees table (net_moved port K (hand_done table act p from can x))
          (moved port (left (map (λ (y : Note). y.item) xs)) e)) alike
          (subst (λ e. StepAgrees table (net_moved port K
          (handled (part_in_hand from x p)
          dones.Moved
          (site_move (in_hand from x p.own) e)))
          (moved port (left (map (λ (y : Note). y.item) xs))
          (take_effect (record {
            table = table;
            around = counted_around
                (released_by from (note_frame x) p.own);
            node = p.own.node;
          }) from (item_of (note_frame x))))) (sym is)
          (take_agrees taking
          (subst (λ e. SentSpelled table (moves (part_in_hand from x p) e)) is sent_spelled))))))))

    -- nothing waits, or something
    by_notes : (ys : List Note) → under_way from port ≡ ys → (from == port) ≡ false →
        Same (net_from (channel N from port)) (machine_from p.own.node (queue S from port))
    by_notes [] e ne =
        let c = agrees.tallies.counts.channels from port pf.part p sender_there site_there ne in
        let empty = ap (carried c.carries.tables.front) e in
        subst (λ found. Same (net_from found) (machine_from p.own.node (queue S from port)))
        (sym c.stands)
        (subst (λ w. Same (net_of w) (machine_from p.own.node (queue S from port)))
        (sym (c.carries.waiting ∙ empty))
        (subst (λ found. Same None (machine_from p.own.node found))
        (sym (sym (agrees.tallies.shows.queues from port)
        ∙ ap (option_map (λ d. map (λ (y : Note). y.item) (under_way from port))) c.stands
        ∙ ap (λ ys. Some (map (λ (y : Note). y.item) ys)) e)) none))
    by_notes (x ∷ xs) e ne = taken x xs e

  module _ (pl : Place) (there : place_at N port ≡ Some pl) where
    -- the node's end is open towards another
    other_port : is_open pl.part.own.node from ≡ true → (from == port) ≡ false
    other_port o = go (from == port) refl
      where
        go : (b : Bool) → (from == port) ≡ b → b ≡ false
        go false e = refl
        go true e =
            absurd (apart (ap (λ k. is_open pl.part.own.node k) (sym (eqb-true from port e)) ∙ o)
            (agrees.tallies.counts.owns port pl.part (ap (option_map (λ y. y.part)) there)).apart)

    -- where the node can take, the sender is there
    by_sender : can_take from pl.part.own.node ≡ true → is_open pl.part.own.node from ≡ true →
        (found : Option Place) → place_at N from ≡ found →
        Same (net_from (channel N from port)) (machine_from pl.part.own.node (queue S from port))
    by_sender can o None k =
        absurd (no_site (ap (λ (f : Option Place). is_some (option_map (λ y. y.part) f)) k)
        (agrees.tallies.counts.peers port from pl.part (ap (option_map (λ y. y.part)) there) o))
      where
        no_site : {b : Bool} → b ≡ false → b ≡ true → ⊥
        no_site h k = cc
    by_sender can o (Some pf) k =
        by_notes pl pf there k can o (under_way from port) refl (other_port o)

    -- by whether the node can take
    by_node : (b : Bool) → can_take from pl.part.own.node ≡ b →
        Same (cond (not b) None (net_from (channel N from port)))
        (cond (not b) None (machine_from pl.part.own.node (queue S from port)))
    by_node false e = none
    by_node true e =
        by_sender e (former (is_open pl.part.own.node from) (can_serve pl.part.own.node.stack) e)
        (place_at N from) refl
      where
        former : (a b : Bool) → (a && b) ≡ true → a ≡ true
        former true b h = refl
        former false b h = absurd (cc)

  -- by the site
  by_site : (found : Option Place) → place_at N port ≡ found →
      Same (elim (option_map (λ (y : Place). y.part) found) [
        | None ↦ None
        | Some p ↦ cond (not (can_take from p.own.node)) None (net_from (channel N from port))
      ]) (machine_by (node S port))
  by_site None k =
      subst (λ o. Same None (machine_by o))
      (ap (λ (o : Option Place). option_map (λ (r : Part). r.own.node)
      (option_map (λ (y : Place). y.part) o)) (sym k)
      ∙ agrees.tallies.shows.nodes port) none
  by_site (Some pl) k =
      subst (λ o. Same (cond (not (can_take from pl.part.own.node)) None
      (net_from (channel N from port))) (machine_by o))
      (sym (node_is table act N S agrees kept told port pl.part
      (ap (option_map (λ (y : Place). y.part)) k)))
      (by_node pl k (can_take from pl.part.own.node) refl)

  -- a take
  pub take_event : StepAgrees table (net_step table act N (Take port from))
      (step table act S (Take port from))
  take_event = by_site (place_at N port) refl
