-- Where all ends are open and nothing is on its way, nothing is lent and nothing asked for.
use Rattle.std.proofs.Common.{◌≡◌, ◌==◌, ◌∙◌, ℕ, Bool, true, false, cond, List, [], ◌∷◌, map, refl}
use Rattle.std.{proofs.Common.{sym, ap, subst, arith}, specs.Prelude.{All, None, Option, Some}}
use Rattle.std.specs.{Prelude.{is_some, option_map}, List.{find, flat_map, list_any}}
use Rattle.std.proofs.lemmas.{Bool.{Decides.nat_tests, eqb-true}, List.Elements.All-nil}
use Rattle.do_base.specs.declared.events.event.Event.{Event}
use Rattle.do_class.specs.Class.{Class}
use Rattle.do_machine.specs.declared.{item.Item.Item, node.Node.Node, state.Seat.Seat}
use Rattle.do_machine.specs.{declared.state.State.State, State.{node, queue}}
use Rattle.do_machine.specs.{World.{by_port, opening, opening_station, others}, run.Run.Acting}
use Rattle.do_facts.specs.{Reached.reached, View.{net_of, part_seen, wire_seen}}
use Rattle.do_facts.specs.links.{Facts.open_in, Links.{atoms, links}, Moves.opens}
use Rattle.do_facts.proofs.{ReachedStates.holds_of_reached, OpeningAsNet.opening_parts}
use Rattle.do_facts.proofs.links.{ListsChanged.open_less, ReachedLinks.opening_keeps}
use Rattle.do_quiet.specs.Quiet.{AllEndsOpen, NothingLent, NothingWaits}
use Rattle.do_quiet.proofs.QuietLinks.{nothing_asked, nothing_lent}
use Rattle.do_quiet.proofs.ReachedWithin.{Stands, step_stands}

-- what is among others is among all, and not itself
other_ends : (port peer : ℕ) (ps : List ℕ) →
    list_any (λ x. x == peer) (others ps port) ≡ true →
    (list_any (λ x. x == peer) ps ≡ true) × ((peer == port) ≡ false)
other_ends port peer ps o = grind (arith, nat_tests, o, open_less peer port ps)

-- a port among stations that open has a node
has_node : (table : List Class) (all : List ℕ) (peer : ℕ) (seats : List Seat) →
    list_any (λ x. x == peer) (map (λ s. s.node) seats) ≡ true →
    is_some (option_map (λ s. s.node)
    (find (λ s. peer == s.port) (map (opening_station table all) seats))) ≡ true
has_node table all peer [] h = absurd (cc)
has_node table all peer (s ∷ seats) h =
    grind (arith, nat_tests, h, has_node table all peer seats)

-- a port with an open end has a node
seen_there : (found : Option Node) (peer : ℕ) → opens (part_seen links found) peer ≡ true →
    is_some found ≡ true
seen_there None peer o = absurd (cc)
seen_there (Some n) peer o = refl

-- the node that is there
node_of : (found : Option Node) → is_some found ≡ true → (n : Node) × (found ≡ Some n)
node_of None h = absurd (cc)
node_of (Some n) h = (n, refl)

module _ (table : List Class) (all : List ℕ) (port peer : ℕ) where
  -- an end of a station that opens is towards another port
  opens_among : (seats : List Seat) →
      opens (part_seen links (option_map (λ s. s.node)
      (find (λ s. port == s.port) (map (opening_station table all) seats)))) peer ≡ true →
      list_any (λ x. x == peer) (others all port) ≡ true
  opens_among [] h = absurd (cc)
  opens_among (s ∷ seats) h = go (port == s.node) refl (opens_among seats) h
    where
      go : (b : Bool) → (port == s.node) ≡ b →
          (opens (part_seen links (option_map (λ s. s.node)
          (find (λ s. port == s.port) (map (opening_station table all) seats)))) peer ≡ true →
          list_any (λ x. x == peer) (others all port) ≡ true) →
          opens (part_seen links (option_map (λ s. s.node)
          (cond b (Some (opening_station table all s))
          (find (λ s. port == s.port) (map (opening_station table all) seats))))) peer ≡ true →
          list_any (λ x. x == peer) (others all port) ≡ true
      go true e k h' =
          subst (λ p. list_any (λ x. x == peer) (others all p) ≡ true)
          (sym (eqb-true port s.node e)) h'
      go false e k h' = k h'

module _ (table : List Class) (seats : List Seat) where
  -- the state that opens
  abbrev first : State
  first = opening table seats

  -- its open ends
  abbrev pub ends : ℕ → ℕ → Bool
  ends a b = open_in (net_of links first) a b

  -- its ports
  abbrev pub is_there : ℕ → Bool
  is_there port = is_some (node first port)

  -- an end that opens is towards another node
  towards : (a b : ℕ) → ends a b ≡ true →
      (is_there a ≡ true) × (is_there b ≡ true) × ((b == a) ≡ false)
  towards a b o =
      let all : List ℕ = map (λ s. s.node) (by_port seats) in
      let other = other_ends a b all (opens_among table all a b (by_port seats) o) in (
        seen_there (node first a) b o,
        has_node table all b (by_port seats) other.0,
        other.1,
      )

  -- nothing is lent and nothing asked for
  pub blank : (port : ℕ) → (((net_of links first).part port).lent ≡ [])
      × (((net_of links first).part port).asked ≡ [])
  blank =
      opening_parts table seats links (λ port p. (p.lent ≡ []) × (p.asked ≡ []))
      (λ port. (refl, refl)) (λ all s. (refl, refl))

  -- a machine opens so
  pub first_stands : Stands ends is_there first
  first_stands = record {
    kept = opening_keeps table seats;
    within = λ port. record {
      reached = λ peer o. o;
      lent = subst (All (λ l. ends port l.borrower ≡ true)) (sym (blank port).0)
          (All-nil (λ l. ends port l.borrower ≡ true));
      homes = subst (All (λ w. ends port w.object.node ≡ true)) (sym (blank port).1)
          (All-nil (λ w. ends port w.object.node ≡ true));
      lenders = subst (All (λ w. ends port w.token.lender ≡ true)) (sym (blank port).1)
          (All-nil (λ w. ends port w.token.lender ≡ true));
    };
    there = λ port e. e;
  }

  module _ (S : State) (stands : Stands ends is_there S) (open_all : AllEndsOpen S) where
    -- an end is open
    is_reached : (a b : ℕ) → is_there a ≡ true → is_there b ≡ true → (b == a) ≡ false →
        open_in (net_of links S) a b ≡ true
    is_reached a b x y d =
        let n = node_of (node S a) (stands.there a x) in
        let m = node_of (node S b) (stands.there b y) in
        ap (λ found. opens (part_seen links found) b) n.1
        ∙ open_all.reach a b n.0 m.0 n.1 m.1 d

    -- the other way
    flips : (a b : ℕ) → (b == a) ≡ false → (a == b) ≡ false
    flips a b d = grind (arith, nat_tests, d)

    -- all ends that opened are open, on both sides
    pub reach : (a b : ℕ) → ends a b ≡ true →
        (open_in (net_of links S) a b ≡ true) × (open_in (net_of links S) b a ≡ true)
    reach a b o =
        let t = towards a b o in
        (is_reached a b t.0 t.1 t.2, is_reached b a t.1 t.0 (flips a b t.2))

    module _ (waits : NothingWaits S) where
      -- nothing is on a wire
      empty_seen : (a b : ℕ) (found : Option (List Item)) → queue S a b ≡ found →
          wire_seen links found ≡ []
      empty_seen a b None h = refl
      empty_seen a b (Some items) h = ap (flat_map atoms) (waits.empty a b items h)

      -- nothing is lent, and nothing asked for
      none_lent : NothingLent S
      none_lent =
          let empty : (a b : ℕ) → (net_of links S).wire a b ≡ [] =
          λ a b. empty_seen a b (queue S a b) refl in
          record {
            lent = λ port n h.
                ap (λ found. (part_seen links found).lent) (sym h)
                ∙ nothing_lent (net_of links S) ends stands.kept.hold stands.within empty reach
                port;
            asked = λ port n h.
                ap (λ found. (part_seen links found).asked) (sym h)
                ∙ nothing_asked (net_of links S) ends stands.kept.hold stands.within empty reach
                port;
          }

  -- in every state that a machine comes to
  pub quiet_lends_nothing : (act : Acting) (events : List Event) →
      AllEndsOpen (reached table act seats events) →
      NothingWaits (reached table act seats events) →
      NothingLent (reached table act seats events)
  quiet_lends_nothing act events =
      none_lent (reached table act seats events)
      (holds_of_reached table act (Stands ends is_there) (step_stands ends is_there table act)
      seats events first_stands)
