-- A network agrees with the machine as both open.
use Rattle.std.proofs.Common.{◌≡◌, ◌==◌, ℕ, Bool, true, false, cond, List, [], ◌∷◌, length, map}
use Rattle.std.proofs.Common.{refl, sym, ap, ◌∙◌, subst, arith}
use Rattle.std.specs.Prelude.{None, Option, Some, find, is_some, option_and_then, option_map}
use Rattle.std.proofs.lemmas.Bool.Decides.{nat_tests}
use Rattle.do_class.specs.Class.{Class}
use Rattle.do_machine.specs.{declared.state.{Seat.Seat, State.State}, State.{is_open, node}}
use Rattle.do_machine.specs.World.{by_port, opening, others}
use Rattle.do_network.specs.Links.{Link, Part, link_to}
use Rattle.do_network.specs.Net.{net_ports, opening_link, Channel, Net, Place, channel, channel_to}
use Rattle.do_network.specs.Net.{net_opening, opening_channel, opening_place, part_at, place_at}
use Rattle.do_network.specs.fits.{Fits.Fits, Notes.{Note, carried, names_behind, tells_of, total}}
use Rattle.do_network.proofs.OpeningFits.{seat_found, opening_fits}
use Rattle.do_facts.{specs.links.LinksAreKept.LinksAreKept, proofs.links.ReachedLinks.opening_keeps}
use Rattle.do_agreement.specs.{Agrees.Agrees, CountsFit.MarksFit}
use Rattle.do_agreement.proofs.{counts.MovesAccount.apart, losses.LossFits.carried_length}
use Rattle.do_agreement.proofs.{places.PlacesChanged.some_is, acts.StepTallies.sound_here}

-- nothing is under way that nothing carries
nothing : (xs : List Note) → length xs ≡ 0 → xs ≡ []
nothing [] e = refl
nothing (x ∷ xs) e = absurd (omega (arith, e))

-- ---- a network that fits, and in which nothing was sent

-- Nothing was ever sent or taken over a channel
pub record IsUnused (c : Channel) : Type 0 where
  pub waiting : c.waiting ≡ []
  pub begun : c.begun ≡ false

-- Nothing was ever sent or read over a link
pub record IsFresh (l : Link) : Type 0 where
  pub sent : l.sent ≡ []
  pub read : l.read ≡ []

module _ (table : List Class) (N : Net) (S : State) (F : Fits table N S) (kept : LinksAreKept S)
    (unused : (a m : ℕ) (c : Channel) → channel N a m ≡ Some c → IsUnused c)
    (fresh : (port peer : ℕ) (p : Part) (l : Link) → part_at N port ≡ Some p →
    link_to p.links peer ≡ Some l → IsFresh l)
    (linked : (port : ℕ) (p : Part) → part_at N port ≡ Some p →
    map (λ (l : Link). l.peer) p.links ≡ others (net_ports N) port) where
  -- a site is the machine's node
  node_is : (port : ℕ) (p : Part) → part_at N port ≡ Some p → node S port ≡ Some p.own.node
  node_is port p h = sym (F.nodes port) ∙ ap (option_map (λ (r : Part). r.own.node)) h

  -- nothing is under way between two sites
  none_there : (a m : ℕ) (p q : Part) → part_at N a ≡ Some p → part_at N m ≡ Some q →
      (a == m) ≡ false → F.under_way a m ≡ []
  none_there a m p q h k ne =
      let way = F.channels a m p q h k ne in
      nothing (F.under_way a m)
      (sym (carried_length way.carries.tables.front (F.under_way a m))
      ∙ ap length (sym way.carries.waiting ∙ (unused a m way.between way.stands).waiting))

  -- a node whose end towards a port is open is not of this port
  not_itself : (a m : ℕ) (p : Part) → part_at N a ≡ Some p → is_open p.own.node m ≡ true →
      (a == m) ≡ false
  not_itself a m p h o = go (a == m) refl
    where
      same : (a == m) ≡ true → a ≡ m
      same e = grind (arith, nat_tests, e)

      go : (b : Bool) → (a == m) ≡ b → b ≡ false
      go false e = refl
      go true e =
          absurd (apart (ap (λ k. is_open p.own.node k) (same e) ∙ o) (F.owns a p h).apart)

  -- the network agrees with the state
  pub unused_agrees : Agrees table N S
  unused_agrees = record {
    tallies = record {
      under_way = F.under_way;
      counts = record {
        owns = λ port p h.
            let own = F.owns port p h in
            record {
              port_is = own.port_is;
              apart = own.apart;
              reached = record {
                reached = (sound_here S kept port p.own.node (node_is port p h)).reached;
              };
              held = own.held;
              received = own.received;
            };
        counted = λ a m p q h k ne none. (F.pairs a m p q h k ne).counted;
        silent = λ a m p h o s. reach a m p h o s (part_at N m) refl (F.peers a m p h o);
        channels = λ a m p q h k ne.
            let way = F.channels a m p q h k ne in
            record {
              between = way.between;
              stands = way.stands;
              writer = way.writer;
              writes = way.writes;
              reader = way.reader;
              reads = way.reads;
              carries = record {
                tables = record {
                  front = [];
                  read = λ o. sym (fresh m a q way.reader k way.reads).read;
                  behind = ap (names_behind []) (none_there a m p q h k ne)
                      ∙ sym (fresh a m p way.writer h way.writes).sent;
                  recent = record { few = omega arith; differ = tt };
                  known = tt;
                };
                waiting = (unused a m way.between way.stands).waiting
                    ∙ sym (ap (carried []) (none_there a m p q h k ne));
                greeting = way.carries.greeting;
                spelled = way.carries.spelled;
              };
              marks = subst (MarksFit way.writer way.between) (sym (none_there a m p q h k ne))
                  (record {
                    lost = tt;
                    unbegun = λ e. ((unused a m way.between way.stands).begun, tt);
                  });
            };
        links = linked;
        peers = F.peers;
      };
      shows = record { ports = F.ports; nodes = F.nodes; queues = F.queues };
    };
    classes = λ port p h. (F.owns port p h).classes;
  }
    where
      reach : (a m : ℕ) (p : Part) → part_at N a ≡ Some p → is_open p.own.node m ≡ true →
          (s : ℕ) → (found : Option Part) → part_at N m ≡ found → is_some found ≡ true →
          total (tells_of s) (F.under_way a m) ≡ 0
      reach a m p h o s None k some = absurd (cc)
      reach a m p h o s (Some q) k some =
          ap (total (tells_of s)) (none_there a m p q h k (not_itself a m p h o))

-- ---- the opening

-- what is found among results is such, where each result is
pub found_such : {X Y : Type 0} (P : Y → Type 0) (test : Y → Bool) (f : X → Y) →
    ((x : X) → P (f x)) → (xs : List X) (y : Y) → find test (map f xs) ≡ Some y → P y
found_such P test f each [] y e = absurd (cc)
found_such P test f each (x ∷ xs) y e = go (test (f x)) (found_such P test f each xs y) e
  where
    go : (b : Bool) → (find test (map f xs) ≡ Some y → P y) →
        cond b (Some (f x)) (find test (map f xs)) ≡ Some y → P y
    go true k h = subst P (some_is (f x) y h) (each x)
    go false k h = k h

-- as a network opens no channel was used
opening_unused : (table : List Class) (seats : List Seat) (a m : ℕ) (c : Channel) →
    channel (net_opening table seats) a m ≡ Some c → IsUnused c
opening_unused table seats a m c =
    go (place_at (net_opening table seats) a) refl
  where
    each : (s : Seat) (d : Channel) →
        channel_to m (opening_place table (map (λ (x : Seat). x.node) (by_port seats)) s) ≡ Some d →
        IsUnused d
    each s d =
        found_such IsUnused (λ e. m == e.to) opening_channel
        (λ k. record { waiting = refl; begun = refl })
        (others (map (λ (x : Seat). x.node) (by_port seats)) s.node) d

    go : (found : Option Place) → place_at (net_opening table seats) a ≡ found →
        option_and_then (channel_to m) found ≡ Some c → IsUnused c
    go None k h = absurd (cc)
    go (Some pl) k h =
        found_such (λ pl. (d : Channel) → channel_to m pl ≡ Some d → IsUnused d)
        (λ x. a == x.port) (opening_place table (map (λ (x : Seat). x.node) (by_port seats))) each
        (by_port seats) pl k c h

-- as a network opens nothing was sent or read over a link
opening_fresh : (table : List Class) (seats : List Seat) (port peer : ℕ) (p : Part) (l : Link) →
    part_at (net_opening table seats) port ≡ Some p → link_to p.links peer ≡ Some l → IsFresh l
opening_fresh table seats port peer p l h =
    go (place_at (net_opening table seats) port) refl h
  where
    all : List ℕ
    all = map (λ (x : Seat). x.node) (by_port seats)

    each : (s : Seat) (k : Link) →
        link_to (opening_place table all s).part.links peer ≡ Some k → IsFresh k
    each s k =
        found_such IsFresh (λ e. peer == e.peer) opening_link
        (λ n. record { sent = refl; read = refl }) (others all s.node) k

    go : (found : Option Place) → place_at (net_opening table seats) port ≡ found →
        option_map (λ (x : Place). x.part) found ≡ Some p →
        link_to p.links peer ≡ Some l → IsFresh l
    go None k e is = absurd (cc)
    go (Some pl) k e is =
        found_such (λ (x : Place). (n : Link) → link_to x.part.links peer ≡ Some n → IsFresh n)
        (λ x. port == x.port) (opening_place table all) each (by_port seats) pl k l
        (ap (λ (q : Part). link_to q.links peer) (some_is pl.part p e) ∙ is)

-- as a network opens each site has a link to each other
opening_linked : (table : List Class) (seats : List Seat) (port : ℕ) (p : Part) →
    part_at (net_opening table seats) port ≡ Some p →
    map (λ (l : Link). l.peer) p.links ≡ others (net_ports (net_opening table seats)) port
opening_linked table seats port p h =
    let all = map (λ (s : Seat). s.node) (by_port seats) in
    let found = seat_found table all (by_port seats) port p h in
    ap (λ (r : Part). map (λ (l : Link). l.peer) r.links) (sym found.part_is)
    ∙ link_peers (others all found.seat.node)
    ∙ ap (others all) found.port_is
    ∙ ap (λ ps. others ps port) (sym (place_ports all (by_port seats)))
  where
    link_peers : (ps : List ℕ) → map (λ (l : Link). l.peer) (map opening_link ps) ≡ ps
    link_peers [] = refl
    link_peers (k ∷ ps) = ap (λ ks. k ∷ ks) (link_peers ps)

    place_ports : (all : List ℕ) (ss : List Seat) →
        map (λ (x : Place). x.port) (map (opening_place table all) ss)
        ≡ map (λ (s : Seat). s.node) ss
    place_ports all [] = refl
    place_ports all (s ∷ ss) = ap (λ ks. s.node ∷ ks) (place_ports all ss)

-- the network of a world agrees with its machine
pub opening_agrees : (table : List Class) (seats : List Seat) →
    Agrees table (net_opening table seats) (opening table seats)
opening_agrees table seats =
    unused_agrees table (net_opening table seats) (opening table seats) (opening_fits table seats)
    (opening_keeps table seats) (opening_unused table seats) (opening_fresh table seats)
    (opening_linked table seats)
