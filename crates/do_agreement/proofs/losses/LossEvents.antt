-- The event of a loss keeps a network in agreement with the state.
use Rattle.std.proofs.Common.{◌≡◌, ◌==◌, ◌&&◌, ℕ, Bool, true, false, cond, not, List, [], map}
use Rattle.std.{proofs.Common.{length, refl, sym, ap, ◌∙◌, subst}, specs.Prelude.{None, Option}}
use Rattle.std.specs.Prelude.{Some, is_some, nat_lt, option_and_then, option_map, unwrap_or}
use Rattle.std.{specs.List.insert, proofs.lemmas.{Bool.eqb-true, List.length-map}}
use Rattle.do_base.specs.{declared.events.event.Event.TheVariants.Lose, names.Names.ObjectName}
use Rattle.do_class.specs.{Class.Class, declared.ids.ClassId.ClassId}
use Rattle.do_machine.specs.declared.{item.Item.{Item, TheVariants.End}, state.State.State}
use Rattle.do_machine.specs.{declared.state.Stepped.Stepped, Commit.{showed, skipped}}
use Rattle.do_machine.specs.{State.{change, class_of, is_open, node, queue, with_queue}, Step.step}
use Rattle.do_machine.specs.run.Run.{Acting}
use Rattle.do_facts.proofs.machine.follows.States.{requeued}
use Rattle.do_facts.proofs.machine.passing.Lookups.{elsewhere_stays, other_stays, that_changed}
use Rattle.do_network.specs.{Links.Part, Net.{Channel, Net, Place, change_place, channel}}
use Rattle.do_network.specs.{Net.{channel_to, part_at, place_at, with_channel}, Step.NetStepped}
use Rattle.do_network.specs.{Step.{net_skipped, net_stays, net_step, with_loss}, fits.Notes.Note}
use Rattle.do_facts.specs.links.LinksAreKept.{LinksAreKept}
use Rattle.do_agreement.specs.{Agrees.{Agrees, StepAgrees}, Classed.ClassesAreTold, Shows.Shows}
use Rattle.do_agreement.proofs.{places.KeyedLists.same_keys, classes.ClassesAfter.classes_stay_so}
use Rattle.do_agreement.proofs.counts.MovesAccount.{apart}
use Rattle.do_agreement.proofs.acts.ActsAgree.{known_some, node_is, skip_agrees}
use Rattle.do_agreement.proofs.commits.CommitShows.{channel_there, whatever}
use Rattle.do_agreement.proofs.losses.LossFits.{carried_length, loss_fits, marked, marked_items}
use Rattle.do_agreement.proofs.losses.LossFits.{same_parts, with_mark}
use Rattle.do_agreement.proofs.places.PlacesChanged.{channel_elsewhere, channel_here, ports_same}
use Rattle.do_facts.proofs.steps.OthersStay.{class_requeued}

module _ (table : List Class) (act : Acting) (N : Net) (S : State) (agrees : Agrees table N S)
    (kept : LinksAreKept S) (told : ClassesAreTold S) (from to after : ℕ) where
  -- what is under way
  abbrev under_way : ℕ → ℕ → List Note
  under_way = agrees.tallies.under_way

  -- what waits in the queue
  abbrev waiting : List Item
  waiting = map (λ (y : Note). y.item) (under_way from to)

  -- the state after the loss
  abbrev T : State
  T = change from (with_queue to (insert waiting after (End []))) S

  -- the network after the loss
  abbrev L : Net
  L = change_place from (with_channel to (with_loss after)) N

  module _ (pf : Place) (sender : place_at N from ≡ Some pf) (between : Channel)
      (stands : channel N from to ≡ Some between) where
    -- a place keeps its port
    keeps_port : (y : Place) → (with_channel to (with_loss after) y).port ≡ y.port
    keeps_port y = refl

    -- no site changes
    parts : (a : ℕ) → part_at L a ≡ part_at N a
    parts = same_parts table from to after N under_way agrees.tallies.counts pf sender

    -- a channel is there where it was
    there_still : {Y : Type 0} (y : Y) (a m : ℕ) →
        whatever y (channel L a m) ≡ whatever y (channel N a m)
    there_still y a m = go (from == a) refl
      where
        go : (b : Bool) → (from == a) ≡ b →
            whatever y (channel L a m) ≡ whatever y (channel N a m)
        go true e =
            subst (λ z. whatever y (channel L z m) ≡ whatever y (channel N z m))
            (eqb-true from a e)
            (ap (whatever y)
            (channel_here from (with_channel to (with_loss after)) keeps_port N pf sender m)
            ∙ channel_there y to m (with_loss after) (λ c. refl) pf.channels
            ∙ sym (ap (λ o. whatever y (option_and_then (channel_to m) o)) sender))
        go false e =
            ap (whatever y)
            (channel_elsewhere from (with_channel to (with_loss after)) keeps_port N a m e)

    -- what waits
    waits : queue S from to ≡ Some waiting
    waits = sym (agrees.tallies.shows.queues from to) ∙ ap (whatever waiting) stands

    -- a queue
    queue_now : (a m : ℕ) (b c : Bool) → (a == from) ≡ b → (m == to) ≡ c →
        whatever (map (λ (y : Note). y.item) (cond (b && c) (marked after (under_way a m))
        (under_way a m))) (channel N a m) ≡ queue T a m
    queue_now a m true true e k =
        let is_from : a ≡ from = eqb-true a from e in
        let is_to : m ≡ to = eqb-true m to k in
        subst (λ z. whatever (map (λ (y : Note). y.item) (marked after (under_way z m)))
        (channel N z m) ≡ queue T z m) (sym is_from)
        (subst (λ z. whatever (map (λ (y : Note). y.item) (marked after (under_way from z)))
        (channel N from z) ≡ queue T from z) (sym is_to)
        (ap (whatever (map (λ (y : Note). y.item) (marked after (under_way from to)))) stands
        ∙ ap (λ w. Some w) (marked_items after (under_way from to))
        ∙ sym (that_changed from to (insert waiting after (End [])) waiting S.stations waits)))
    queue_now a m true false e k =
        agrees.tallies.shows.queues a m
        ∙ sym (other_stays from to (insert waiting after (End [])) S.stations a m k)
    queue_now a m false c e k =
        agrees.tallies.shows.queues a m
        ∙ sym (elsewhere_stays from to (insert waiting after (End [])) S.stations a m e)

    -- the network shows the state
    loss_shows : Shows L (with_mark from to after under_way) T
    loss_shows = record {
      ports =
          ports_same from (with_channel to (with_loss after)) keeps_port N
          ∙ agrees.tallies.shows.ports
          ∙ sym (same_keys (λ s. s.port) (with_queue to (insert waiting after (End [])))
          (λ s. refl) from S.stations);
      nodes = λ a.
          ap (option_map (λ (p : Part). p.own.node)) (parts a)
          ∙ agrees.tallies.shows.nodes a
          ∙ sym (requeued from to a (insert waiting after (End [])) S.stations);
      queues = λ a m.
          there_still (map (λ (y : Note). y.item) (with_mark from to after under_way a m)) a m
          ∙ queue_now a m (a == from) (m == to) refl refl;
    }

    -- a class stays
    still : (o : ObjectName) (c : ClassId) → class_of S o ≡ Some c → class_of T o ≡ Some c
    still o c h =
        class_requeued from to (insert waiting after (End [])) o S.stations ∙ h

    -- a loss
    lost_agrees : StepAgrees table (net_stays L) (showed [] T)
    lost_agrees = record {
      agrees = record {
        tallies = record {
          under_way = with_mark from to after under_way;
          counts = loss_fits table from to after N under_way agrees.tallies.counts pf sender;
          shows = loss_shows;
        };
        classes = λ a p h.
            let was = sym (parts a) ∙ h in
            classes_stay_so S T still p.own (known_some table act N S agrees kept told a p was)
            (agrees.classes a p was);
      };
      outcome = refl;
    }

  -- both come to the same
  abbrev Same : Option NetStepped → Option Stepped → Type 0
  Same s u = StepAgrees table (unwrap_or s (net_skipped N)) (unwrap_or u (skipped S))

  -- nothing is done
  none : Same None None
  none = skip_agrees table act N S agrees kept told

  -- what the network does with a channel
  abbrev net_from : Option Channel → Option NetStepped
  net_from found = elim found [
    | None ↦ None
    | Some c ↦ cond (nat_lt (length c.waiting) after) None (Some (net_stays L))
  ]

  -- what the machine does with a queue
  abbrev machine_from : Option (List Item) → Option State
  machine_from found = elim found [
    | None ↦ None
    | Some w ↦ cond (nat_lt (length w) after) None
        (Some (change from (with_queue to (insert w after (End []))) S))
  ]

  module _ (pl : Place) (there : place_at N to ≡ Some pl)
      (here : is_open pl.part.own.node from ≡ true) where
    -- the site is there
    site_there : part_at N to ≡ Some pl.part
    site_there = ap (option_map (λ y. y.part)) there

    -- the two are apart
    other : (from == to) ≡ false
    other = go (from == to) refl
      where
        go : (b : Bool) → (from == to) ≡ b → b ≡ false
        go false e = refl
        go true e =
            absurd (apart (ap (λ k. is_open pl.part.own.node k) (sym (eqb-true from to e)) ∙ here)
            (agrees.tallies.counts.owns to pl.part site_there).apart)

    -- the sender is there
    by_sender : (found : Option Place) → place_at N from ≡ found →
        Same (net_from (channel N from to))
        (option_map (showed []) (machine_from (queue S from to)))
    by_sender None k =
        absurd (no_site (ap (λ (f : Option Place). is_some (option_map (λ y. y.part) f)) k)
        (agrees.tallies.counts.peers to from pl.part site_there here))
      where
        no_site : {b : Bool} → b ≡ false → b ≡ true → ⊥
        no_site h q = cc
    by_sender (Some pf) k =
        let c = agrees.tallies.counts.channels from to pf.part pl.part
        (ap (option_map (λ (y : Place). y.part)) k) site_there other in
        let many : length c.between.waiting ≡ length waiting =
        ap length c.carries.waiting ∙ carried_length c.carries.tables.front (under_way from to)
        ∙ sym (length-map (under_way from to) (λ (y : Note). y.item)) in
        subst (λ found. Same (net_from found) (option_map (showed [])
        (machine_from (queue S from to)))) (sym c.stands)
        (subst (λ found. Same (cond (nat_lt (length c.between.waiting) after) None
        (Some (net_stays L))) (option_map (showed []) (machine_from found)))
        (sym (waits pf k c.between c.stands))
        (subst (λ n. Same (cond (nat_lt n after) None (Some (net_stays L)))
        (option_map (showed []) (machine_from (Some waiting)))) (sym many)
        (go pf k c.between c.stands (nat_lt (length waiting) after))))
      where
        go : (pf : Place) (k : place_at N from ≡ Some pf) (between : Channel)
            (stands : channel N from to ≡ Some between) (b : Bool) →
            Same (cond b None (Some (net_stays L))) (option_map (showed []) (cond b None (Some T)))
        go pf k between stands true = none
        go pf k between stands false = lost_agrees pf k between stands

  -- by whether the end is open
  by_end : (pl : Place) → place_at N to ≡ Some pl → (b : Bool) →
      is_open pl.part.own.node from ≡ b →
      Same (cond (not b) None (net_from (channel N from to)))
      (option_map (showed []) (cond (not b) None (machine_from (queue S from to))))
  by_end pl there false e = none
  by_end pl there true e = by_sender pl there e (place_at N from) refl

  -- by the reader
  by_reader : (found : Option Place) → place_at N to ≡ found →
      Same (elim (option_map (λ (y : Place). y.part) found) [
        | None ↦ None
        | Some p ↦ cond (not (is_open p.own.node from)) None (net_from (channel N from to))
      ]) (option_map (showed []) (elim (node S to) [
        | None ↦ None
        | Some n ↦ cond (not (is_open n from)) None (machine_from (queue S from to))
      ]))
  by_reader None k =
      subst (λ o. Same None (option_map (showed []) (elim o [
        | None ↦ None
        | Some n ↦ cond (not (is_open n from)) None (machine_from (queue S from to))
      ])))
      (ap (λ (o : Option Place). option_map (λ (r : Part). r.own.node)
      (option_map (λ (y : Place). y.part) o)) (sym k)
      ∙ agrees.tallies.shows.nodes to) none
  by_reader (Some pl) k =
      subst (λ o. Same (cond (not (is_open pl.part.own.node from)) None
      (net_from (channel N from to))) (option_map (showed []) (elim o [
        | None ↦ None
        | Some n ↦ cond (not (is_open n from)) None (machine_from (queue S from to))
      ])))
      (sym (node_is table act N S agrees kept told to pl.part
      (ap (option_map (λ (y : Place). y.part)) k)))
      (by_end pl k (is_open pl.part.own.node from) refl)

  -- a loss
  pub loss_event : StepAgrees table (net_step table act N (Lose from to after))
      (step table act S (Lose from to after))
  loss_event = by_reader (place_at N to) refl
