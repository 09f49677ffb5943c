-- A take of the oldest item on its way to a node, in a network that agrees with a state.
use Rattle.do_agreement.proofs.hands.HandSites as sites
use Rattle.std.proofs.Common.{◌≡◌, ◌==◌, ℕ, true, false, List, ◌∷◌, map, sym, ap, ◌∙◌}
use Rattle.std.specs.Prelude.{Some, option_map}
use Rattle.do_class.specs.{Class.Class, Table.IsTable}
use Rattle.do_machine.specs.declared.{item.Item.Item, state.State.State}
use Rattle.do_machine.specs.{State.{is_open, node, queue}, run.Run.Acting, take.Take.can_take}
use Rattle.do_facts.specs.{calls.Facts.CallsAreKept, links.LinksAreKept.LinksAreKept}
use Rattle.do_facts.specs.steps.IsStep.{without_oldest}
use Rattle.do_coder.specs.declared.recent.pair.Pair.{Pair}
use Rattle.do_network.specs.{Links.Part, Net.{Net, Place, part_at, place_at}, fits.Notes.Note}
use Rattle.do_agreement.specs.{Agrees.Agrees, Classed.ClassesAreTold, CountsFit.ChannelCarries}
use Rattle.do_agreement.proofs.{acts.ActsAgree.node_is, hands.HandSites.Hand}

-- what holds where a node can take the oldest item of a peer, in a network that agrees with a
-- state: where both are, and what is behind the item
pub record Taking (table : List Class) (act : Acting) (N : Net) (S : State)
    (agrees : Agrees table N S) (port from : ℕ) (x : Note) (xs : List Note) : Type 0 where
  pub is_table : IsTable table
  pub kept : LinksAreKept S
  pub calls : CallsAreKept S
  pub told : ClassesAreTold S
  pub pl : Place
  pub pf : Place
  pub there : place_at N port ≡ Some pl
  pub sender : place_at N from ≡ Some pf
  pub can : can_take from pl.part.own.node ≡ true
  pub here : is_open pl.part.own.node from ≡ true
  pub first : agrees.tallies.under_way from port ≡ x ∷ xs

module _ {table : List Class} {act : Acting} {N : Net} {S : State} {agrees : Agrees table N S}
    {port from : ℕ} {x : Note} {xs : List Note}
    (taking : Taking table act N S agrees port from x xs) where
  -- the site
  abbrev pub p : Part
  p = taking.pl.part

  -- what is under way
  abbrev pub under_way : ℕ → ℕ → List Note
  under_way = agrees.tallies.under_way

  -- the item in hand
  abbrev pub hand : Hand table port from N under_way x xs
  hand = record {
    is_table = taking.is_table;
    fit = agrees.tallies.counts;
    pl = taking.pl;
    pf = taking.pf;
    there = taking.there;
    sender = taking.sender;
    here = taking.here;
    first = taking.first;
  }

  -- the site is there
  pub site_there : part_at N port ≡ Some p
  site_there = ap (option_map (λ y. y.part)) taking.there

  -- and the sender
  pub sender_there : part_at N from ≡ Some taking.pf.part
  sender_there = ap (option_map (λ y. y.part)) taking.sender

  -- the site's node is the machine's
  pub node_there : node S port ≡ Some p.own.node
  node_there = node_is table act N S agrees taking.kept taking.told port p site_there

  -- the two are apart
  pub apart_from : (from == port) ≡ false
  apart_from = sites.other hand

  -- the channel between them
  abbrev pub way : ChannelCarries table N from port taking.pf.part p (under_way from port)
  way = sites.way hand

  -- the names by which the item is spelled
  abbrev pub names : List Pair
  names = sites.front hand

  -- the items that are left
  abbrev pub rest : List Item
  rest = map (λ (y : Note). y.item) xs

  -- the state without the item
  abbrev pub T : State
  T = without_oldest S from port rest

  -- what waits for the node
  pub waits : queue S from port ≡ Some (x.item ∷ rest)
  waits =
      sym (agrees.tallies.shows.queues from port)
      ∙ ap (option_map (λ c. map (λ (y : Note). y.item) (under_way from port))) way.stands
      ∙ ap (λ ys. Some (map (λ (y : Note). y.item) ys)) taking.first

  -- the site is of its port
  pub port_is : p.own.node.port ≡ port
  port_is = (agrees.tallies.counts.owns port p site_there).port_is
