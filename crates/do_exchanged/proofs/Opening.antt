-- What is known as a world opens, and what is left of its nodes' records.
use Rattle.do_weave.specs.Threads as threads
use Rattle.std.proofs.Common.{◌≡◌, ◌==◌, ◌+◌, ◌<◌, ◌||◌, ℕ, zero, suc, Bool, true, false, cond}
use Rattle.std.proofs.Common.{List, [], ◌∷◌, length, map, get_or, refl, sym, ap, ◌∙◌, subst, inl}
use Rattle.std.proofs.Common.{inr, arith}
use Rattle.std.specs.Prelude.{None, Option, Some, find, nat_eq, option_map, slice_get}
use Rattle.std.specs.List.{Contains, IsDistinct, list_any, Sorted.IsPermutation}
use Rattle.std.proofs.lemmas.Bool.{both_ways, cases_order, eq-eqb, eqb-true, Decides.nat_tests}
use Rattle.std.proofs.lemmas.List.Sorted.{Contains-permutation, IsPermutation-map}
use Rattle.std.proofs.lemmas.List.Sorted.{IsPermutation-sym, IsPermutation-trans}
use Rattle.std.proofs.lemmas.List.Sorted.{list_any-IsPermutation}
use Rattle.std.proofs.lemmas.Map.Keys.{IsDistinct-IsPermutation, apart_from_distinct}
use Rattle.std.proofs.lemmas.Option.{get_or_from_slice_get, slice_get-map, slice_get_within}
use Rattle.do_class.specs.Class.{Class}
use Rattle.do_machine.specs.{World.{IsWorld, by_port, is_before, others}, declared.state.Seat.Seat}
use Rattle.do_machine.specs.run.Run.{Acting}
use Rattle.do_net.specs.Seen.{Seen}
use Rattle.do_network.specs.Net.{Net, Place, net_opening, opening_channel, opening_link}
use Rattle.do_network.specs.Net.{opening_place, place_at}
use Rattle.do_network.proofs.{ListSearch.{find_mapped, other_found}, OpeningFits.seat_among}
use Rattle.do_agreement.proofs.places.{Numbers.flipped, PlacesChanged.some_is}
use Rattle.do_record.specs.declared.parts.Record.{Record}
use Rattle.do_weave.proofs.{Again.threads_apart, Sorting.all_inserted_moves}
use Rattle.do_weave.specs.Threads.{threads_from, threads_of}
use Rattle.do_exchanged.specs.{Exchange.Doing, Runs.{Ran, beginning, record_of_run}}
use Rattle.do_exchanged.proofs.{Flows.Flows, Known.{Known, Stands}}
use Rattle.do_exchanged.proofs.Threads.{Left, NodeLeft, Thread}

-- ---- places in lists

-- an element within a list is at its place
at_place : {X : Type 0} (xs : List X) (k : ℕ) (x : X) → k < length xs → get_or xs k x ≡ x →
    slice_get xs k ≡ Some x
at_place [] k x low e = absurd (omega (arith, low))
at_place (y ∷ ys) zero x low e = ap Some e
at_place (y ∷ ys) (suc k) x low e = at_place ys k x (omega (arith, low)) e

-- what stands in a list stands in one with the same elements
moved_place : {X : Type 0} (xs ys : List X) → IsPermutation xs ys → (k : ℕ) (x : X) →
    slice_get xs k ≡ Some x → (j : ℕ) × (slice_get ys j ≡ Some x)
moved_place xs ys same k x there =
    let c : Contains ys x = Contains-permutation xs ys x same
    (k, slice_get_within xs k x there, get_or_from_slice_get xs k x x there) in
    (c.0, at_place ys c.0 x c.1 c.2)

-- an element that a list of others has comes from one of these
pub from_map : {X Y : Type 0} (f : X → Y) (xs : List X) (k : ℕ) (y : Y) →
    slice_get (map f xs) k ≡ Some y → (x : X) × (slice_get xs k ≡ Some x) × (f x ≡ y)
from_map f xs k y there = go (slice_get xs k) refl
  where
    go : (o : Option _) → slice_get xs k ≡ o →
        (x : _) × (slice_get xs k ≡ Some x) × (f x ≡ y)
    go None e = absurd (none (sym (slice_get-map f xs k ∙ ap (option_map f) e) ∙ there))
      where
        none : None ≡ Some y → ⊥
        none e = cc
    go (Some x) e =
        (x, e, some_is (f x) y (sym (slice_get-map f xs k ∙ ap (option_map f) e) ∙ there))

-- numbers that differ stand at one place each
one_place : (ns : List ℕ) → IsDistinct nat_eq ns → (j k n : ℕ) → slice_get ns j ≡ Some n →
    slice_get ns k ≡ Some n → j ≡ k
one_place ns distinct j k n first second = elim (cases_order j k) [
  | inl same ↦ same
  | inr order ↦ elim order [
    | inl below ↦ absurd (no j k first second below)
    | inr above ↦ absurd (no k j second first above)
  ]
]
  where
    no : (i l : ℕ) → slice_get ns i ≡ Some n → slice_get ns l ≡ Some n → i < l → ⊥
    no i l a b low =
        both_ways (nat_eq (get_or ns i 0) (get_or ns l 0))
        (apart_from_distinct nat_eq ns i l 0 distinct low (slice_get_within ns l n b))
        (eq-eqb (get_or ns i 0) (get_or ns l 0)
        (get_or_from_slice_get ns i n 0 a ∙ sym (get_or_from_slice_get ns l n 0 b)))

-- ---- seats

-- the port of a seat
abbrev port_of : Seat → ℕ
port_of s = s.node

-- a seat is found by its port, where all ports differ
seat_by_port : (ss : List Seat) → IsDistinct nat_eq (map port_of ss) → (k : ℕ) (s : Seat) →
    slice_get ss k ≡ Some s → find (λ x. s.node == x.node) ss ≡ Some s
seat_by_port ss distinct k s there = go ss (λ j x found same. same_seat j x found same) k there
  where
    -- one of its port is the seat
    same_seat : (j : ℕ) (x : Seat) → slice_get ss j ≡ Some x → s.node ≡ x.node → x ≡ s
    same_seat j x found same =
        let j_is : j ≡ k = one_place (map port_of ss) distinct j k s.node
        (slice_get-map port_of ss j ∙ ap (option_map port_of) found ∙ ap Some (sym same))
        (slice_get-map port_of ss k ∙ ap (option_map port_of) there) in
        some_is x s (sym found ∙ ap (slice_get ss) j_is ∙ there)

    go : (xs : List Seat) → ((j : ℕ) (x : Seat) → slice_get xs j ≡ Some x → s.node ≡ x.node →
        x ≡ s) → (k : ℕ) → slice_get xs k ≡ Some s → find (λ x. s.node == x.node) xs ≡ Some s
    go [] same k there = absurd (cc)
    go (x ∷ xs) same zero there =
        let is : x ≡ s = some_is x s there in
        ap (λ b. cond b (Some x) (find (λ y. s.node == y.node) xs))
        (ap (λ (y : Seat). s.node == y.node) is ∙ itself s.node)
        ∙ ap Some is
      where
        itself : (n : ℕ) → (n == n) ≡ true
        itself n = grind (arith, nat_tests)
    go (x ∷ xs) same (suc k) there = by_test (s.node == x.node) refl
        (go xs (λ j y found e. same (suc j) y found e) k there)
      where
        by_test : (b : Bool) → (s.node == x.node) ≡ b →
            find (λ y. s.node == y.node) xs ≡ Some s →
            cond b (Some x) (find (λ y. s.node == y.node) xs) ≡ Some s
        by_test true e later = ap Some (same 0 x refl (eqb-true s.node x.node e))
        by_test false e later = later

-- a run of a port
run_of_port : (x : ℕ) (runs : List Ran) →
    list_any (λ p. x == p) (map port_of (map (λ (r : Ran). r.seat) runs)) ≡ true →
    (k : ℕ) × (r : Ran) × (slice_get runs k ≡ Some r) × (r.seat.node ≡ x)
run_of_port x [] e = absurd (cc)
run_of_port x (r ∷ runs) e = go (x == r.seat.node) refl e (run_of_port x runs)
  where
    go : (b : Bool) → (x == r.seat.node) ≡ b →
        (b || list_any (λ p. x == p) (map port_of (map (λ (r : Ran). r.seat) runs))) ≡ true →
        (list_any (λ p. x == p) (map port_of (map (λ (r : Ran). r.seat) runs)) ≡ true →
        (k : ℕ) × (q : Ran) × (slice_get runs k ≡ Some q) × (q.seat.node ≡ x)) →
        (k : ℕ) × (q : Ran) × (slice_get (r ∷ runs) k ≡ Some q) × (q.seat.node ≡ x)
    go true is e later = (0, r, refl, sym (eqb-true x r.seat.node is))
    go false is e later = let q = later e in (suc q.0, q.1, q.2, q.3)

module _ (table : List Class) (act : Acting) (seats : List Seat) (world : IsWorld table seats)
    (runs : List Ran) (each : IsPermutation (map (λ (r : Ran). r.seat) runs) seats) where
  -- the seats by rising port
  abbrev rising : List Seat
  rising = by_port seats

  -- their ports
  abbrev all : List ℕ
  all = map port_of rising

  -- the seats of the runs are these, in another order
  in_order : IsPermutation (map (λ (r : Ran). r.seat) runs) rising
  in_order =
      IsPermutation-trans (map (λ (r : Ran). r.seat) runs) seats rising each
      (all_inserted_moves is_before seats)

  -- the order of two numbers does not matter
  nat_eq_flips : (x y : ℕ) → nat_eq x y ≡ nat_eq y x
  nat_eq_flips x y = grind (arith, nat_tests)

  -- their ports differ
  all_distinct : IsDistinct nat_eq all
  all_distinct =
      IsDistinct-IsPermutation nat_eq nat_eq_flips (map port_of seats) all
      (IsPermutation-map port_of seats rising (all_inserted_moves is_before seats)) world.distinct

  -- so do those of the runs
  runs_distinct : IsDistinct nat_eq (map port_of (map (λ (r : Ran). r.seat) runs))
  runs_distinct =
      IsDistinct-IsPermutation nat_eq nat_eq_flips all
      (map port_of (map (λ (r : Ran). r.seat) runs))
      (IsPermutation-map port_of rising (map (λ (r : Ran). r.seat) runs)
      (IsPermutation-sym (map (λ (r : Ran). r.seat) runs) rising in_order)) all_distinct

  -- the network as it opens
  abbrev N : Net
  N = net_opening table seats

  -- the nodes before their first inputs
  abbrev pub nodes : List (Doing Seen)
  nodes = map (beginning table act seats) runs

  -- the place of a run
  opens_there : (k : ℕ) (r : Ran) → slice_get runs k ≡ Some r →
      place_at N r.seat.node ≡ Some (opening_place table all r.seat)
  opens_there k r there =
      let j = moved_place (map (λ (q : Ran). q.seat) runs) rising in_order k r.seat
      (slice_get-map (λ (q : Ran). q.seat) runs k ∙ ap (option_map (λ (q : Ran). q.seat)) there) in
      find_mapped (λ (x : Place). r.seat.node == x.port) (opening_place table all) rising
      ∙ ap (option_map (opening_place table all))
      (seat_by_port rising all_distinct j.0 r.seat j.1)

  -- two runs of one port are one
  one_run : (j k : ℕ) (t g : Ran) → slice_get runs j ≡ Some t → slice_get runs k ≡ Some g →
      t.seat.node ≡ g.seat.node → j ≡ k
  one_run j k t g first second same =
      let ss = map (λ (r : Ran). r.seat) runs in
      let at : (i : ℕ) (r : Ran) → slice_get runs i ≡ Some r →
      slice_get (map port_of ss) i ≡ Some r.seat.node = λ i r found.
      slice_get-map port_of ss i
      ∙ ap (option_map port_of) (slice_get-map (λ (r : Ran). r.seat) runs i
      ∙ ap (option_map (λ (r : Ran). r.seat)) found) in
      one_place (map port_of ss) runs_distinct j k g.seat.node (at j t first ∙ ap Some same)
      (at k g second)

  -- what is known as the world opens
  pub opening_known : Known table act N nodes
  opening_known = record {
    stands = λ k d found.
        let r = from_map (beginning table act seats) runs k d found in
        subst (Stands table act N) r.2
        (record {
          place = opening_place table all r.0.seat;
          there = opens_there k r.0 r.1;
          is = refl;
        });
    flows = λ j k t g found_t found_g differ y there.
        let a = from_map (beginning table act seats) runs j t found_t in
        let b = from_map (beginning table act seats) runs k g found_g in
        let is : opening_place table all b.0.seat ≡ y =
        some_is (opening_place table all b.0.seat) y
        (sym (opens_there k b.0 b.1) ∙ ap (λ (x : Doing Seen). place_at N x.port) b.2 ∙ there) in
        subst (λ (x : Doing Seen). Flows x.port (x.taken g.port) y.part.links y.channels g.sent) a.2
        (subst (λ (x : Doing Seen). Flows a.0.seat.node [] y.part.links y.channels x.sent) b.2
        (subst (λ (z : Place). Flows a.0.seat.node [] z.part.links z.channels []) is
        (empty j a.0 a.1 b.0.seat.node
        (flipped b.0.seat.node a.0.seat.node
        (ap (λ (x : Doing Seen). x.port == a.0.seat.node) b.2
        ∙ ap (λ (x : Doing Seen). g.port == x.port) a.2 ∙ differ)))));
    each = λ x y there.
        let f = seat_among table all rising x y.part
        (ap (option_map (λ (z : Place). z.part)) there) in
        let r = run_of_port x runs
        (list_any-IsPermutation (λ p. x == p) (map port_of (map (λ (r : Ran). r.seat) runs)) all
        (IsPermutation-map port_of (map (λ (r : Ran). r.seat) runs) rising in_order) ∙ f) in (
          r.0,
          beginning table act seats r.1,
          slice_get-map (beginning table act seats) runs r.0
              ∙ ap (option_map (beginning table act seats)) r.2,
          r.3,
        );
    apart = λ j k t g found_t found_g same.
        let a = from_map (beginning table act seats) runs j t found_t in
        let b = from_map (beginning table act seats) runs k g found_g in
        one_run j k a.0 b.0 a.1 b.1
        (ap (λ (x : Doing Seen). x.port) a.2 ∙ same ∙ sym (ap (λ (x : Doing Seen). x.port) b.2));
  }
    where
      -- nothing is in a channel to another
      empty : (j : ℕ) (r : Ran) → slice_get runs j ≡ Some r → (from : ℕ) →
          (r.seat.node == from) ≡ false →
          Flows r.seat.node [] (map opening_link (others all from))
          (map opening_channel (others all from)) []
      empty j r there from apart =
          let among = seat_among table all rising r.seat.node _
          (ap (option_map (λ (z : Place). z.part)) (opens_there j r there)) in
          record {
            writer = opening_link r.seat.node;
            writes = other_found opening_link (λ l. l.peer) (λ x. refl) from r.seat.node apart all
                among;
            between = opening_channel r.seat.node;
            stands = other_found opening_channel (λ c. c.to) (λ x. refl) from r.seat.node apart all
                among;
            left = [];
            waiting = refl;
            begun = refl;
            bytes = refl;
          }

  -- ---- records

  -- what they recorded
  abbrev pub records : List Record
  records = map (record_of_run table act seats) runs

  -- the thread of a record, counted on from a number
  abbrev thread_at : ℕ → Record → Thread
  thread_at n r = record { port = r.port; index = n; at = 0 }

  -- it stands at the record's place
  thread_there : (n : ℕ) (rs : List Record) (k : ℕ) (r : Record) → slice_get rs k ≡ Some r →
      slice_get (threads_from n rs) k ≡ Some (thread_at (n + k) r)
  thread_there n [] k r e = absurd (cc)
  thread_there n (q ∷ rs) zero r e =
      ap (λ (x : Record). Some (thread_at n x)) (some_is q r e)
      ∙ ap (λ i. Some (thread_at i r)) (omega arith)
  thread_there n (q ∷ rs) (suc k) r e =
      thread_there (n + 1) rs k r e ∙ ap (λ i. Some (thread_at i r)) (omega arith)

  -- and each thread is that of a record
  thread_from : (n : ℕ) (rs : List Record) (k : ℕ) (t : Thread) →
      slice_get (threads_from n rs) k ≡ Some t →
      (r : Record) × (slice_get rs k ≡ Some r) × (t.port ≡ r.port)
  thread_from n [] k t e = absurd (cc)
  thread_from n (q ∷ rs) zero t e =
      (q, refl, ap (λ (x : Thread). x.port) (sym (some_is (thread_at n q) t e)))
  thread_from n (q ∷ rs) (suc k) t e = thread_from (n + 1) rs k t e

  -- the threads are those, in another order
  abbrev moves : IsPermutation (threads_from 0 records) (threads_of records)
  moves = all_inserted_moves threads.is_before (threads_from 0 records)

  -- the record of a run
  record_there : (k : ℕ) (r : Ran) → slice_get runs k ≡ Some r →
      slice_get records k ≡ Some (record_of_run table act seats r)
  record_there k r there =
      slice_get-map (record_of_run table act seats) runs k
      ∙ ap (option_map (record_of_run table act seats)) there

  -- no two records are of one port
  pub records_apart : IsDistinct nat_eq (map (λ (r : Record). r.port) records)
  records_apart = subst (IsDistinct nat_eq) (same_ports runs) runs_distinct
    where
      same_ports : (rs : List Ran) → map port_of (map (λ (r : Ran). r.seat) rs)
          ≡ map (λ (r : Record). r.port) (map (record_of_run table act seats) rs)
      same_ports [] = refl
      same_ports (r ∷ rs) = ap (λ ps. r.seat.node ∷ ps) (same_ports rs)

  -- all is left of them
  pub opening_left : Left records (threads_of records) nodes
  opening_left = record {
    nodes_left = λ k d found.
        let r = from_map (beginning table act seats) runs k d found in
        let own = record_of_run table act seats r.0 in
        let j = moved_place (threads_from 0 records) (threads_of records) moves k
        (thread_at (0 + k) own) (thread_there 0 records k own (record_there k r.0 r.1)) in
        subst (NodeLeft records (threads_of records) k) r.2
        (record {
          place = j.0;
          at = 0;
          there = j.1 ∙ ap (λ i. Some (thread_at i own)) (omega arith);
          before = [];
          line = 2;
          whole = r.0.whole;
          is = record_there k r.0 r.1;
          count = refl;
        });
    each = λ place t there.
        let k = moved_place (threads_of records) (threads_from 0 records)
        (IsPermutation-sym (threads_from 0 records) (threads_of records) moves) place t there in
        let q = thread_from 0 records k.0 t k.1 in
        let r = from_map (record_of_run table act seats) runs k.0 q.0 q.1 in (
          k.0,
          beginning table act seats r.0,
          slice_get-map (beginning table act seats) runs k.0
              ∙ ap (option_map (beginning table act seats)) r.1,
          q.2 ∙ sym (ap (λ (x : Record). x.port) r.2),
        );
    apart = threads_apart records records_apart;
  }
