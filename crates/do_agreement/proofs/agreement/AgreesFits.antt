-- A network that agrees with a state stands for it, where the state keeps lends, asks and calls.
use Rattle.std.proofs.Common.{◌≡◌, ◌≢◌, ◌==◌, ℕ, false, List, map, refl, sym, ap, ◌∙◌, arith}
use Rattle.std.{specs.Prelude.{Some, option_map}, proofs.lemmas.Bool.Decides.nat_tests}
use Rattle.do_class.specs.Class.{Class}
use Rattle.do_machine.specs.{declared.state.State.State, State.{node, queue}}
use Rattle.do_network.specs.{Links.Part, Net.{Net, part_at}, fits.{Fits.Fits, Notes.Note}}
use Rattle.do_facts.specs.{calls.Facts.CallsAreKept, links.LinksAreKept.LinksAreKept}
use Rattle.do_agreement.specs.{Agrees.Agrees, StandBetween.StandBetween}
use Rattle.do_agreement.proofs.pairs.{CallsOfPairs.one_call, LendsOfPairs.{one_ask, one_lend}}
use Rattle.do_agreement.proofs.places.Numbers.{flipped}

-- numbers that a test tells apart are apart
are_apart : (a b : ℕ) → (a == b) ≡ false → a ≢ b
are_apart a b e = λ same. grind (arith, nat_tests, e, same)

module _ (table : List Class) (N : Net) (S : State) (agrees : Agrees table N S) where
  -- what is under way
  abbrev under_way : ℕ → ℕ → List Note
  under_way = agrees.tallies.under_way

  -- a site is the machine's node
  pub node_is : (port : ℕ) (p : Part) → part_at N port ≡ Some p → node S port ≡ Some p.own.node
  node_is port p h =
      sym (agrees.tallies.shows.nodes port) ∙ ap (option_map (λ (r : Part). r.own.node)) h

  -- the queue between two sites
  pub queue_is : (a m : ℕ) (p q : Part) → part_at N a ≡ Some p → part_at N m ≡ Some q →
      (a == m) ≡ false → queue S a m ≡ Some (map (λ x. x.item) (under_way a m))
  queue_is a m p q h k ne =
      sym (agrees.tallies.shows.queues a m)
      ∙ ap (option_map (λ c. map (λ (x : Note). x.item) (under_way a m)))
      (agrees.tallies.counts.channels a m p q h k ne).stands

  -- two sites stand in the state
  stand : (a m : ℕ) (p q : Part) → part_at N a ≡ Some p → part_at N m ≡ Some q →
      (a == m) ≡ false → StandBetween S p.own.node q.own.node (under_way a m) (under_way m a)
  stand a m p q h k ne =
      let is_a = (agrees.tallies.counts.owns a p h).port_is in
      let is_m = (agrees.tallies.counts.owns m q k).port_is in
      record {
        here = ap (node S) is_a ∙ node_is a p h;
        peer = ap (node S) is_m ∙ node_is m q k;
        goes = ap (λ x. queue S x q.own.node.port) is_a ∙ ap (queue S a) is_m
            ∙ queue_is a m p q h k ne;
        comes = ap (λ x. queue S x p.own.node.port) is_m ∙ ap (queue S m) is_a
            ∙ queue_is m a q p k h (flipped a m ne);
        apart = λ same. are_apart a m ne (sym is_a ∙ same ∙ is_m);
      }

  -- the network stands for the state
  pub fits_so : LinksAreKept S → CallsAreKept S → Fits table N S
  fits_so links calls = record {
    under_way = under_way;
    ports = agrees.tallies.shows.ports;
    nodes = agrees.tallies.shows.nodes;
    queues = agrees.tallies.shows.queues;
    owns = λ port p h.
        let own = agrees.tallies.counts.owns port p h in
        record {
          port_is = own.port_is;
          apart = own.apart;
          held = own.held;
          received = own.received;
          classes = agrees.classes port p h;
        };
    pairs = λ a m p q h k ne.
        let both = stand a m p q h k ne in
        record {
          counted = agrees.tallies.counts.counted a m p q h k ne refl;
          lends = one_lend S links p.own.node q.own.node (under_way a m) (under_way m a) both;
          asks = one_ask S links p.own.node q.own.node (under_way a m) (under_way m a) both;
          calls = one_call S calls p.own.node q.own.node (under_way a m) (under_way m a) both;
        };
    channels = λ a m p q h k ne.
        let way = agrees.tallies.counts.channels a m p q h k ne in
        record {
          between = way.between;
          stands = way.stands;
          writer = way.writer;
          writes = way.writes;
          reader = way.reader;
          reads = way.reads;
          carries = record {
            tables = record {
              front = way.carries.tables.front;
              read = λ o. way.carries.tables.read refl;
              behind = way.carries.tables.behind;
              recent = way.carries.tables.recent;
              known = way.carries.tables.known;
            };
            waiting = way.carries.waiting;
            greeting = way.carries.greeting;
            spelled = way.carries.spelled;
          };
        };
    peers = agrees.tallies.counts.peers;
  }

  -- by the same that is under way
  pub same_way : (links : LinksAreKept S) (calls : CallsAreKept S) (from to : ℕ) →
      (fits_so links calls).under_way from to ≡ under_way from to
  unfolding fits_so
  same_way links calls from to = refl
