-- A check lists the same of a network and of the state that it agrees with.
use Rattle.std.proofs.Common.{◌≡◌, ◌==◌, ◌&&◌, ℕ, Bool, true, false, cond, not, List, [], ◌∷◌, drop}
use Rattle.std.proofs.Common.{filter, map, refl, sym, ap, ◌∙◌, subst}
use Rattle.std.specs.Prelude.{Some, find, option_map, slice_get, unwrap_or}
use Rattle.std.specs.List.{AllByRecursion, IsDistinct, flat_map}
use mathlib.Core.Path.{fun_ext}
use Rattle.do_class.specs.Class.{Class}
use Rattle.do_machine.specs.declared.{node.{Node.Node, Stored.Stored}, state.State.State}
use Rattle.do_machine.specs.{declared.state.Station.Station, Entry.has_entry, Objects.object_at}
use Rattle.do_machine.specs.State.{is_open, node, own, ports}
use Rattle.do_machine.specs.check.Snapshot.{closed_ends, entry_of, node_line, object_line, snapshot}
use Rattle.do_network.specs.{Links.Part, Net.{Net, Place, net_ports, part_at, place_at}}
use Rattle.do_network.specs.{Own.is_counted, Snapshot.{closed_links, net_snapshot, part_line}}
use Rattle.do_agreement.specs.Agrees.{Agrees}
use Rattle.do_agreement.proofs.commits.{EntriesJudged.counts_judge, Moving.shown_but}
use Rattle.do_agreement.proofs.places.{PlacesChanged.some_is, Numbers.{flipped, same_number}}

-- those that pass twice
filter_both : {X : Type 0} (f g : X → Bool) (xs : List X) →
    filter f (filter g xs) ≡ filter (λ x. g x && f x) xs
filter_both f g [] = refl
filter_both f g (x ∷ xs) = go (g x) (filter_both f g xs)
  where
    go : (b : Bool) → filter f (filter g xs) ≡ filter (λ y. g y && f y) xs →
        filter f (cond b (x ∷ filter g xs) (filter g xs))
        ≡ cond (b && f x) (x ∷ filter (λ y. g y && f y) xs) (filter (λ y. g y && f y) xs)
    go true e = ap (λ ys. cond (f x) (x ∷ ys) ys) e
    go false e = e

module _ {X : Type 0} (key : X → ℕ) where
  -- what is found behind an element of another number
  found_behind : (x : X) (xs ys : List X) →
      AllByRecursion (λ k. (key x == k) ≡ false) (map key ys) →
      AllByRecursion (λ z. find (λ y. key z == key y) xs ≡ Some z) ys →
      AllByRecursion (λ z. find (λ y. key z == key y) (x ∷ xs) ≡ Some z) ys
  found_behind x xs [] d all = tt
  found_behind x xs (z ∷ ys) d all = (
    ap (λ b. cond b (Some x) (find (λ y. key z == key y) xs)) (flipped (key x) (key z) d.0) ∙ all.0,
    found_behind x xs ys d.1 all.1,
  )

  -- where all numbers differ, each element is found by its number
  pub all_found : (xs : List X) → IsDistinct (λ (p q : ℕ). p == q) (map key xs) →
      AllByRecursion (λ z. find (λ y. key z == key y) xs ≡ Some z) xs
  unfolding IsDistinct
  all_found [] d = tt
  all_found (x ∷ xs) d = (
    ap (λ b. cond b (Some x) (find (λ y. key x == key y) xs)) (same_number (key x)),
    found_behind x xs xs d.0 (all_found xs d.1),
  )

module _ (table : List Class) (N : Net) (S : State) (agrees : Agrees table N S) where
  module _ (port : ℕ) (p : Part) (there : part_at N port ≡ Some p) where
    -- the node
    abbrev n : Node
    n = p.own.node

    -- it is of its port
    port_is : n.port ≡ port
    port_is = (agrees.tallies.counts.owns port p there).port_is

    -- what is counted tells the entries
    judged : (peer serial : ℕ) → is_counted p.own peer serial ≡ has_entry S peer (own n serial)
    judged peer serial =
        let t = agrees.tallies in
        counts_judge table port n N t.under_way S (λ a m. false) t.counts
        (shown_but port N t.under_way S t.shows p there) p there (λ k. refl) (λ k. refl) peer serial
        ∙ ap (λ k. has_entry S peer (object_at k serial)) (sym port_is)

    -- the entries of a peer
    entries_same : (peer : ℕ) (heap : List Stored) →
        map (λ (x : Stored). entry_of peer (own n x.serial))
        (filter (λ (x : Stored). is_counted p.own peer x.serial) heap)
        ≡ map (entry_of peer)
        (filter (has_entry S peer) (map (λ (x : Stored). own n x.serial) heap))
    entries_same peer [] = refl
    entries_same peer (x ∷ heap) =
        ap (λ b. map (λ (y : Stored). entry_of peer (own n y.serial))
        (cond b (x ∷ filter (λ (y : Stored). is_counted p.own peer y.serial) heap)
        (filter (λ (y : Stored). is_counted p.own peer y.serial) heap))) (judged peer x.serial)
        ∙ go (has_entry S peer (own n x.serial)) (entries_same peer heap)
      where
        go : (b : Bool) →
            map (λ (y : Stored). entry_of peer (own n y.serial))
            (filter (λ (y : Stored). is_counted p.own peer y.serial) heap)
            ≡ map (entry_of peer)
            (filter (has_entry S peer) (map (λ (y : Stored). own n y.serial) heap)) →
            map (λ (y : Stored). entry_of peer (own n y.serial))
            (cond b (x ∷ filter (λ (y : Stored). is_counted p.own peer y.serial) heap)
            (filter (λ (y : Stored). is_counted p.own peer y.serial) heap))
            ≡ map (entry_of peer) (cond b (own n x.serial
            ∷ filter (has_entry S peer) (map (λ (y : Stored). own n y.serial) heap))
            (filter (has_entry S peer) (map (λ (y : Stored). own n y.serial) heap)))
        go true e = ap (λ es. entry_of peer (own n x.serial) ∷ es) e
        go false e = e

    -- the ends that are closed
    closed_same : closed_links p ≡ closed_ends S n
    closed_same =
        ap (filter (λ peer. not (is_open n peer))) (agrees.tallies.counts.links port p there)
        ∙ filter_both (λ peer. not (is_open n peer)) (λ k. not (k == port)) (net_ports N)
        ∙ ap (filter (λ k. not (k == port) && not (is_open n k))) agrees.tallies.shows.ports
        ∙ ap (λ m. filter (λ k. not (k == m) && not (is_open n k)) (ports S)) (sym port_is)

    -- a site is listed as the machine's node
    line_same : part_line p ≡ node_line S n
    line_same =
        let closed = closed_same in
        let entries = ap (λ f. flat_map f n.open_to) (fun_ext (λ peer. entries_same peer n.heap)) in
        λ i. record {
          node = n.port;
          root = option_map (own n) n.root;
          closed = closed i;
          objects = map (object_line n) n.heap;
          entries = entries i;
        }

  -- a place is listed as the station of its port
  place_line : (x : Place) (s : Station) → place_at N x.port ≡ Some x →
      find (λ (y : Station). s.port == y.port) S.stations ≡ Some s → x.port ≡ s.port →
      part_line x.part ≡ node_line S s.node
  place_line x s h k same =
      let there = ap (option_map (λ (y : Place). y.part)) h in
      line_same x.port x.part there
      ∙ ap (node_line S) (some_is x.part.own.node s.node
      (sym (ap (option_map (λ (r : Part). r.own.node)) there)
      ∙ agrees.tallies.shows.nodes x.port ∙ ap (node S) same
      ∙ ap (option_map (λ (y : Station). y.node)) k))

  -- and so all
  lines_same : (xs : List Place) (ss : List Station) →
      map (λ (x : Place). x.port) xs ≡ map (λ (s : Station). s.port) ss →
      AllByRecursion (λ x. place_at N x.port ≡ Some x) xs →
      AllByRecursion (λ s. find (λ (y : Station). s.port == y.port) S.stations ≡ Some s) ss →
      map (λ (x : Place). part_line x.part) xs ≡ map (λ (s : Station). node_line S s.node) ss
  lines_same [] [] e a b = refl
  lines_same [] (s ∷ ss) e a b = absurd (cc)
  lines_same (x ∷ xs) [] e a b = absurd (cc)
  lines_same (x ∷ xs) (s ∷ ss) e a b =
      let one = place_line x s a.0 b.0 (ap (λ l. unwrap_or (slice_get l 0) 0) e) in
      let rest = lines_same xs ss (ap (drop 1) e) a.1 b.1 in
      λ i. one i ∷ rest i

  -- the snapshots are equal
  pub snapshots_same : IsDistinct (λ (p q : ℕ). p == q) (ports S) → net_snapshot N ≡ snapshot S
  snapshots_same distinct =
      ap (λ ls. record { nodes = ls })
      (lines_same N.places S.stations agrees.tallies.shows.ports
      (all_found (λ x. x.port) N.places
      (subst (IsDistinct (λ (p q : ℕ). p == q)) (sym agrees.tallies.shows.ports) distinct))
      (all_found (λ s. s.port) S.stations distinct))
