-- A network as it opens stands for the machine as it opens.
use Rattle.std.proofs.Common.{◌≡◌, ℕ, Bool, true, false, cond, List, [], ◌∷◌, map, refl, ap, sym}
use Rattle.std.proofs.Common.{◌∙◌, subst, ◌==◌, ◌||◌, arith}
use Rattle.std.specs.Prelude.{None, Option, Some, is_some, option_and_then, option_map, unwrap_or}
use Rattle.std.{specs.List.{find, list_any}, proofs.lemmas.Bool.eqb-true}
use Rattle.do_class.specs.Class.{Class}
use Rattle.do_machine.specs.{declared.state.{Queue.Queue, Seat.Seat}, State.{is_open, queue_to}}
use Rattle.do_machine.specs.World.{by_port, opening, opening_station, others}
use Rattle.do_network.specs.{Links.Part, Net.{Channel, channel, channel_to, net_opening}}
use Rattle.do_network.specs.Net.{opening_channel, opening_place}
use Rattle.do_network.specs.fits.{Fits.{ChannelFits, Fits, OwnFits, PairFits}, Notes.Note}
use Rattle.do_network.proofs.ListSearch.{among_others, find_mapped, turned}
use Rattle.do_network.proofs.OpeningPairs.{at, channel_fits, own_fits, pair_fits}

-- the queue to a peer as it opens
abbrev opening_queue : ℕ → Queue
opening_queue p = record { to = p; items = [] }

module _ (table : List Class) (all : List ℕ) where
  -- A site found at a port is that of a seat
  pub record Found (ss : List Seat) (port : ℕ) (p : Part) : Type 0 where
    pub seat : Seat
    pub part_is : at table all seat ≡ p
    pub port_is : seat.node ≡ port
    pub place_is : find (λ x. port == x.port) (map (opening_place table all) ss)
        ≡ Some (opening_place table all seat)

  -- each site is that of a seat of its port
  pub seat_found : (ss : List Seat) (port : ℕ) (p : Part) →
      option_map (λ x. x.part) (find (λ x. port == x.port) (map (opening_place table all) ss))
      ≡ Some p → Found ss port p
  seat_found [] port p h = absurd cc
  seat_found (s ∷ ss) port p h = go (port == s.node) refl (seat_found ss port p) h
    where
      go : (b : Bool) → (port == s.node) ≡ b →
          (option_map (λ x. x.part)
          (find (λ x. port == x.port) (map (opening_place table all) ss)) ≡ Some p →
          Found ss port p) →
          option_map (λ x. x.part) (cond b (Some (opening_place table all s))
          (find (λ x. port == x.port) (map (opening_place table all) ss))) ≡ Some p →
          Found (s ∷ ss) port p
      go true e k q = record {
        seat = s;
        part_is = ap (λ o. unwrap_or o p) q;
        port_is = sym (eqb-true port s.node e);
        place_is = ap (λ b. cond b (Some (opening_place table all s))
            (find (λ x. port == x.port) (map (opening_place table all) ss))) e;
      }
      go false e k q =
          let f = k q in
          record {
            seat = f.seat;
            part_is = f.part_is;
            port_is = f.port_is;
            place_is = ap (λ b. cond b (Some (opening_place table all s))
                (find (λ x. port == x.port) (map (opening_place table all) ss))) e
                ∙ f.place_is;
          }

  -- a port with a site is among the ports of the seats
  pub seat_among : (ss : List Seat) (port : ℕ) (p : Part) →
      option_map (λ x. x.part) (find (λ x. port == x.port) (map (opening_place table all) ss))
      ≡ Some p → list_any (λ x. port == x) (map (λ s. s.node) ss) ≡ true
  seat_among [] port p h = absurd cc
  seat_among (s ∷ ss) port p h = go (port == s.node) (seat_among ss port p) h
    where
      go : (b : Bool) →
          (option_map (λ x. x.part)
          (find (λ x. port == x.port) (map (opening_place table all) ss)) ≡ Some p →
          list_any (λ x. port == x) (map (λ s. s.node) ss) ≡ true) →
          option_map (λ x. x.part) (cond b (Some (opening_place table all s))
          (find (λ x. port == x.port) (map (opening_place table all) ss))) ≡ Some p →
          (b || list_any (λ x. port == x) (map (λ s. s.node) ss)) ≡ true
      go true k q = refl
      go false k q = k q

  -- node for node
  same_nodes : (port : ℕ) (ss : List Seat) →
      option_map (λ p. p.own.node) (option_map (λ x. x.part)
      (find (λ x. port == x.port) (map (opening_place table all) ss)))
      ≡ option_map (λ s. s.node)
      (find (λ s. port == s.port) (map (opening_station table all) ss))
  same_nodes port ss =
      ap (λ o. option_map (λ p. p.own.node) (option_map (λ x. x.part) o))
      (find_mapped (λ x. port == x.port) (opening_place table all) ss)
      ∙ go (find (λ (s : Seat). port == s.node) ss)
      ∙ sym (ap (λ o. option_map (λ s. s.node) o)
      (find_mapped (λ s. port == s.port) (opening_station table all) ss))
    where
      go : (o : Option Seat) →
          option_map (λ p. p.own.node) (option_map (λ x. x.part)
          (option_map (opening_place table all) o))
          ≡ option_map (λ s. s.node) (option_map (opening_station table all) o)
      go None = refl
      go (Some s) = refl

  -- queue for queue
  same_queues : (from to : ℕ) (ss : List Seat) →
      option_map (λ (c : Channel). map (λ (x : Note). x.item) [])
      (option_and_then (channel_to to)
      (find (λ x. from == x.port) (map (opening_place table all) ss)))
      ≡ option_and_then (λ s. queue_to to s)
      (find (λ s. from == s.port) (map (opening_station table all) ss))
  same_queues from to ss =
      ap (λ o. option_map (λ (c : Channel). map (λ (x : Note). x.item) [])
      (option_and_then (channel_to to) o))
      (find_mapped (λ x. from == x.port) (opening_place table all) ss)
      ∙ go (find (λ (s : Seat). from == s.node) ss)
      ∙ sym (ap (λ o. option_and_then (λ s. queue_to to s) o)
      (find_mapped (λ s. from == s.port) (opening_station table all) ss))
    where
      empty : (o : Option ℕ) →
          option_map (λ (c : Channel). map (λ (x : Note). x.item) [])
          (option_map opening_channel o)
          ≡ option_map (λ (q : Queue). q.items) (option_map opening_queue o)
      empty None = refl
      empty (Some p) = refl

      go : (o : Option Seat) →
          option_map (λ (c : Channel). map (λ (x : Note). x.item) [])
          (option_and_then (channel_to to) (option_map (opening_place table all) o))
          ≡ option_and_then (λ s. queue_to to s) (option_map (opening_station table all) o)
      go None = refl
      go (Some s) =
          ap (λ o. option_map (λ (c : Channel). map (λ (x : Note). x.item) []) o)
          (find_mapped (λ c. to == c.to) opening_channel (others all s.node))
          ∙ empty (find (λ (p : ℕ). to == p) (others all s.node))
          ∙ sym (ap (λ o. option_map (λ (q : Queue). q.items) o)
          (find_mapped (λ q. to == q.to) opening_queue (others all s.node)))

  -- each port of a seat has a site
  leads : (ss : List Seat) (peer : ℕ) →
      list_any (λ x. x == peer) (map (λ s. s.node) ss) ≡ true →
      is_some (option_map (λ x. x.part)
      (find (λ x. peer == x.port) (map (opening_place table all) ss))) ≡ true
  leads [] peer h = absurd cc
  leads (s ∷ ss) peer h = go (s.node == peer) refl (leads ss peer) h
    where
      there : (b : Bool) → (peer == s.node) ≡ b →
          is_some (option_map (λ x. x.part)
          (find (λ x. peer == x.port) (map (opening_place table all) ss))) ≡ true →
          is_some (option_map (λ x. x.part) (cond b (Some (opening_place table all s))
          (find (λ x. peer == x.port) (map (opening_place table all) ss)))) ≡ true
      there true e k = refl
      there false e k = k

      here : (b : Bool) → (peer == s.node) ≡ b → (peer == s.node) ≡ true →
          is_some (option_map (λ x. x.part) (cond b (Some (opening_place table all s))
          (find (λ x. peer == x.port) (map (opening_place table all) ss)))) ≡ true
      here true e k = refl
      here false e k = absurd cc

      go : (b : Bool) → (s.node == peer) ≡ b →
          (list_any (λ x. x == peer) (map (λ s. s.node) ss) ≡ true →
          is_some (option_map (λ x. x.part)
          (find (λ x. peer == x.port) (map (opening_place table all) ss))) ≡ true) →
          (b || list_any (λ x. x == peer) (map (λ s. s.node) ss)) ≡ true →
          is_some (option_map (λ x. x.part)
          (find (λ x. peer == x.port) (map (opening_place table all) (s ∷ ss)))) ≡ true
      go true e k q = here (peer == s.node) refl (grind (arith, e))
      go false e k q = there (peer == s.node) refl (k q)

  -- port for port
  same_ports : (ss : List Seat) →
      map (λ x. x.port) (map (opening_place table all) ss)
      ≡ map (λ s. s.port) (map (opening_station table all) ss)
  same_ports [] = refl
  same_ports (s ∷ ss) = ap (λ ps. s.node ∷ ps) (same_ports ss)

-- the network of a world as it opens fits the machine as it opens
pub opening_fits : (table : List Class) (seats : List Seat) →
    Fits table (net_opening table seats) (opening table seats)
opening_fits table seats =
    let ss = by_port seats in
    let all : List ℕ = map (λ s. s.node) ss in
    record {
      under_way = λ a m. [];
      ports = same_ports table all ss;
      nodes = λ port. same_nodes table all port ss;
      queues = λ from to. same_queues table all from to ss;
      owns = λ port p h.
          let f = seat_found table all ss port p h in
          subst (λ (q : Part). OwnFits (opening table seats) port q.own) f.part_is
          (subst (λ n. OwnFits (opening table seats) n (at table all f.seat).own) f.port_is
          (own_fits table all ss f.seat));
      pairs = λ a m p q h k apart.
          let f = seat_found table all ss a p h in
          let g = seat_found table all ss m q k in
          subst (λ (x : Part). PairFits x.own q.own [] []) f.part_is
          (subst (λ (y : Part). PairFits (at table all f.seat).own y.own [] []) g.part_is
          (pair_fits table all f.seat g.seat));
      channels = λ a m p q h k apart.
          let N = net_opening table seats in
          let f = seat_found table all ss a p h in
          let g = seat_found table all ss m q k in
          let s = f.seat in let t = g.seat in
          subst (λ (x : Part). ChannelFits table N a m x q []) f.part_is
          (subst (λ (y : Part). ChannelFits table N a m (at table all s) y []) g.part_is
          (subst (λ n. ChannelFits table N n m (at table all s) (at table all t) []) f.port_is
          (subst (λ n. ChannelFits table N s.node n (at table all s) (at table all t) [])
          g.port_is
          (channel_fits table all N s t
          (ap (λ n. t.node == n) f.port_is ∙ ap (λ n. n == a) g.port_is ∙ turned a m apart)
          (ap (λ n. s.node == n) g.port_is ∙ ap (λ n. n == m) f.port_is ∙ apart)
          (ap (λ n. list_any (λ x. n == x) all) g.port_is ∙ seat_among table all ss m q k)
          (ap (λ n. list_any (λ x. n == x) all) f.port_is ∙ seat_among table all ss a p h)
          (ap (λ n. channel N n t.node) f.port_is
          ∙ ap (λ o. option_and_then (channel_to t.node) o) f.place_is)))));
      peers = λ port peer p h is.
          let f = seat_found table all ss port p h in
          leads table all ss peer (among_others peer f.seat.node all
          (ap (λ (x : Part). is_open x.own.node peer) f.part_is ∙ is));
    }
