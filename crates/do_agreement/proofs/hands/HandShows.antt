-- A network with an item in hand shows the state without the item, but for the node that has it.
use Rattle.do_agreement.proofs.hands.HandSites as hands
use Rattle.std.proofs.Common.{◌≡◌, ◌==◌, ◌&&◌, ℕ, Bool, true, false, cond, List, ◌∷◌, map, refl}
use Rattle.std.{proofs.Common.{sym, ap, ◌∙◌, subst}, specs.Prelude.{option_and_then, option_map}}
use Rattle.std.proofs.lemmas.Bool.{eqb-true}
use Rattle.do_class.specs.Class.{Class}
use Rattle.do_machine.specs.declared.{item.Item.Item, state.State.State}
use Rattle.do_machine.specs.State.{node, queue, with_queue}
use Rattle.do_facts.{specs.steps.IsStep.without_oldest, proofs.machine.follows.States.requeued}
use Rattle.do_facts.proofs.machine.passing.Lookups.{elsewhere_stays, other_stays, that_changed}
use Rattle.do_network.specs.{Links.Part, Net.{Net, Place, channel, channel_to, part_at}}
use Rattle.do_network.specs.{Step.advanced, fits.Notes.Note}
use Rattle.do_agreement.specs.NetInHand.{carried_as, part_in_hand, with_part}
use Rattle.do_agreement.{specs.Shows.{Shows, ShowsBut}, proofs.places.KeyedLists.same_keys}
use Rattle.do_agreement.proofs.commits.CommitShows.{channel_there, whatever}
use Rattle.do_agreement.proofs.places.PlacesChanged.{channel_elsewhere, channel_here}
use Rattle.do_agreement.proofs.places.PlacesChanged.{part_elsewhere, ports_same}
use Rattle.do_agreement.proofs.hands.HandSites.{Hand, keeps_less, keeps_part, parts_still}
use Rattle.do_agreement.proofs.hands.HandSites.{there_still, way}

module _ {table : List Class} {port from : ℕ} {N : Net} {under_way : ℕ → ℕ → List Note} {x : Note}
    {xs : List Note} (hand : Hand table port from N under_way x xs) {S : State}
    (shows : Shows N under_way S) where
  -- the network without the item
  abbrev K : Net
  K = hands.K hand

  -- the network with the item in hand
  abbrev H : Net
  H = hands.H hand

  -- the items that are left
  abbrev rest : List Item
  rest = map (λ (y : Note). y.item) xs

  -- the state without the item
  abbrev T : State
  T = without_oldest S from port rest

  -- the change of the sender's place
  abbrev less : Place → Place
  less = hands.less hand

  -- the change of the place of the node that takes
  abbrev taking : Place → Place
  taking = with_part (part_in_hand from x hand.pl.part)

  -- the node of another port
  node_still : (a : ℕ) → (port == a) ≡ false →
      option_map (λ (p : Part). p.own.node) (part_at H a) ≡ node T a
  node_still a e =
      ap (option_map (λ (p : Part). p.own.node))
      (part_elsewhere port taking (keeps_part hand) K a e ∙ parts_still hand a)
      ∙ shows.nodes a ∙ sym (requeued from port a rest S.stations)

  -- a channel is there where it was
  channel_still : {Y : Type 0} (y : Y) (a m : ℕ) →
      whatever y (channel H a m) ≡ whatever y (channel N a m)
  channel_still y a m = go (port == a) refl (from == a) refl
    where
      go : (b : Bool) → (port == a) ≡ b → (c : Bool) → (from == a) ≡ c →
          whatever y (channel H a m) ≡ whatever y (channel N a m)
      go true e c k =
          subst (λ z. whatever y (channel H z m) ≡ whatever y (channel N z m))
          (eqb-true port a e)
          (ap (whatever y)
          (channel_here port taking (keeps_part hand) K hand.pl (there_still hand) m
          ∙ sym (ap (option_and_then (channel_to m)) hand.there)))
      go false e true k =
          ap (whatever y)
          (channel_elsewhere port taking (keeps_part hand) K a m e)
          ∙ subst (λ z. whatever y (channel K z m) ≡ whatever y (channel N z m))
          (eqb-true from a k)
          (ap (whatever y) (channel_here from less (keeps_less hand) N hand.pf hand.sender m)
          ∙ channel_there y port m (advanced (carried_as (hands.front hand) x)) (λ c. refl)
          hand.pf.channels
          ∙ sym (ap (λ o. whatever y (option_and_then (channel_to m) o)) hand.sender))
      go false e false k =
          ap (whatever y)
          (channel_elsewhere port taking (keeps_part hand) K a m e
          ∙ channel_elsewhere from less (keeps_less hand) N a m k)

  -- a queue
  queue_still : (a m : ℕ) (b c : Bool) → (a == from) ≡ b → (m == port) ≡ c →
      whatever (map (λ (y : Note). y.item) (cond (b && c) xs (under_way a m))) (channel N a m)
      ≡ queue T a m
  queue_still a m true true e k =
      let is_from : a ≡ from = eqb-true a from e in
      let is_port : m ≡ port = eqb-true m port k in
      subst (λ z. whatever rest (channel N z m) ≡ queue T z m) (sym is_from)
      (subst (λ z. whatever rest (channel N from z) ≡ queue T from z) (sym is_port)
      (ap (whatever rest) (way hand).stands
      ∙ sym (that_changed from port rest (x.item ∷ rest) S.stations
      (sym (shows.queues from port)
      ∙ ap (λ ys. whatever (map (λ (y : Note). y.item) ys) (channel N from port)) hand.first
      ∙ ap (whatever (x.item ∷ rest)) (way hand).stands))))
  queue_still a m true false e k =
      shows.queues a m ∙ sym (other_stays from port rest S.stations a m k)
  queue_still a m false c e k =
      shows.queues a m ∙ sym (elsewhere_stays from port rest S.stations a m e)

  -- the network shows the state, but for the node that has the item
  pub hand_shows : ShowsBut port hand.pl.part.own.node H (hands.now hand) T
  hand_shows = record {
    ports =
        ports_same port taking (keeps_part hand) K
        ∙ ports_same from less (keeps_less hand) N ∙ shows.ports
        ∙ sym (same_keys (λ s. s.port) (with_queue port rest) (λ s. refl) from S.stations);
    here =
        requeued from port port rest S.stations ∙ sym (shows.nodes port)
        ∙ ap (λ o. option_map (λ (p : Part). p.own.node)
        (option_map (λ (y : Place). y.part) o)) hand.there;
    nodes = node_still;
    queues = λ a m.
        channel_still (map (λ (y : Note). y.item) (hands.now hand a m)) a m
        ∙ queue_still a m (a == from) (m == port) refl refl;
  }
