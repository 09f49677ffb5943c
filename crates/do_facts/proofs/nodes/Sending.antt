-- What a node packs and names is moves of it.
use Rattle.do_facts.specs.nodes.Moves as moves
use Rattle.do_facts.proofs.Chains.{first_passes}
use Rattle.std.proofs.Common.{◌≡◌, ◌++◌, ◌+◌, ℕ, suc, true, List, [], ◌∷◌, sym, ap, ◌∙◌, refl, ◌≤◌}
use Rattle.std.proofs.Common.{append_assoc, append-nil, arith, length, subst, map, inl, inr}
use Rattle.std.specs.List.{filter_map}
use Rattle.do_class.specs.declared.packet.Name.{Name, TheVariants.{Lent, Mine, Yours}}
use Rattle.do_class.specs.declared.packet.Packet.{Packet}
use Rattle.std.specs.{Prelude.{Err, Ok, Result, Some}, Result.result_ok}
use Rattle.do_packet.proofs.Keeping.{packed_keeps}
use Rattle.do_packet.specs.{Copies.Placed, Packing.packed, declared.fault.PackFault.PackFault}
use Rattle.do_machine.specs.{Context.Context, Packing.{packed_for, packer}}
use Rattle.do_packet.specs.Limits.{most_names}
use Rattle.do_machine.specs.{declared.node.{Lend.Lend, Node.Node}, Lists.IsIn, Objects.object_at}
use Rattle.do_machine.specs.{State.{is_known, is_open}, lend.Lending.{lend_of, lending, lends_of}}
use Rattle.do_facts.specs.{Net.noted, links.Moves.is_there}
use Rattle.do_facts.proofs.links.AreNamed.{AreNamed, NamedBy, is_usable}
use Rattle.do_facts.specs.nodes.{Atoms.{Named, packet_atoms}, Judged.{Judge, IsPacked, Since}}
use Rattle.do_facts.specs.nodes.After.{with_lend}
use Rattle.do_facts.proofs.nodes.Walks.{Walks, walks_not, walks_on, walks_once}

-- a node, of which all stayed
pub since_itself : (n : Node) → Since n n
since_itself n = record {
  new = [];
  port = refl;
  root = refl;
  stack = refl;
  ends = refl;
  call = refl;
  late = refl;
  heap = sym (append-nil n.heap);
  serial = omega arith;
}

-- a name lends one object at most
lends_few : (to : ℕ) (names : List Name) → length (filter_map (lend_of to) names) ≤ length names
lends_few to [] = omega arith
lends_few to (Mine serial class ∷ names) = omega (arith, lends_few to names)
lends_few to (Yours serial ∷ names) = omega (arith, lends_few to names)
lends_few to (Lent o class token ∷ names) = omega (arith, lends_few to names)

-- a message that a node packs lends no more than a message may name
pub few_lent : (c : Context) (to : ℕ) (values : List Placed) (p : Packet) →
    packed_for c to values ≡ Some p → length (lends_of to p) ≤ most_names
few_lent c to values p h =
    omega (
      arith,
      lends_few to p.names,
      (packed_keeps (packer c) to c.node.next_token values p
          (was (packed (packer c) to c.node.next_token values) h)).names,
    )
  where
    was : (found : Result Packet PackFault) → result_ok found ≡ Some p → found ≡ Ok p
    was (Ok q) e = ap Ok (cc)
    was (Err x) e = absurd (cc)

module _ (j : Judge) (to : ℕ) (packet : Packet) (packed : IsPacked j to packet) where
  -- the node as the effect begins
  abbrev first : Node
  first = j.first

  -- the node once these names are sent
  abbrev lent_by : List Name → Node → Node
  lent_by names n = record n {
    lent = n.lent ++ filter_map (lend_of to) names;
    next_token = n.next_token + length (filter_map (lend_of to) names);
  }

  -- a node with lends and a token
  abbrev with_lends : Node → List Lend → ℕ → Node
  with_lends n lent token = record n { lent = lent; next_token = token }

  -- names that are sent, one after another
  pub names_sent : (names : List Name) (n : Node) → is_open n to ≡ true → Since first n →
      ((x : Name) → IsIn names x → IsIn packet.names x) →
      AreNamed (is_there n.heap) (is_usable n) to n.next_token names →
      n.next_token + length (filter_map (lend_of to) names) ≤ first.next_token + most_names →
      Walks j n [] [] (lent_by names n) (noted to (map Named names)) []
  names_sent [] n o since among h room =
      subst (λ q. Walks j n [] [] q [] [])
      (ap (λ xs. with_lends n xs n.next_token) (sym (append-nil n.lent))
      ∙ ap (λ k. with_lends n (n.lent ++ []) k) (omega arith)) (walks_not j n)
  names_sent (Mine serial class ∷ names) n o since among h room =
      walks_on j
      (walks_once j n (moves.Names to serial class) (
        o,
        record {
          packet = packet;
          since = since;
          packed = packed;
          among = among (Mine serial class) (inl refl);
          able = h.0;
        },
      ))
      (names_sent names n o since (λ x i. among x (inr i)) h.1 room)
  names_sent (Yours serial ∷ names) n o since among h room =
      walks_on j
      (walks_once j n (moves.Mentions to serial) (
        o,
        first_passes (is_known n (object_at to serial)) (is_open n to) h.0,
        record {
          packet = packet;
          since = since;
          packed = packed;
          among = among (Yours serial) (inl refl);
          able = tt;
        },
      ))
      (names_sent names n o since (λ x i. among x (inr i)) h.1 room)
  names_sent (Lent object class number ∷ names) n o since among h room =
      let q = with_lend to object n in
      let new : Lend = record { number = n.next_token; object = object; borrower = to } in
      let more = filter_map (lend_of to) names in
      let later : Since first q = record {
        new = since.new;
        port = since.port;
        root = since.root;
        stack = since.stack;
        ends = since.ends;
        call = since.call;
        late = since.late;
        heap = since.heap;
        serial = since.serial;
      } in
      let behind = names_sent names q o later (λ x i. among x (inr i)) h.2
      (omega (arith, room))
      in
      let one : IsIn packet.names (Lent object class n.next_token) =
      subst (λ k. IsIn packet.names (Lent object class k)) h.0
      (among (Lent object class number) (inl refl))
      in
      subst (λ k. Walks j n [] []
      (with_lends n (n.lent ++ record { number = k; object = object; borrower = to } ∷ more)
      (n.next_token + suc (length more)))
      (noted to (Named (Lent object class k) ∷ map Named names)) [])
      (sym h.0)
      (subst (λ r. Walks j n [] [] r
      (noted to (Named (Lent object class n.next_token) ∷ map Named names)) [])
      (ap (λ xs. with_lends n xs (suc n.next_token + length more))
      (append_assoc n.lent (new ∷ []) more)
      ∙ ap (λ k. with_lends n (n.lent ++ new ∷ more) k) (omega arith))
      (walks_on j
      (walks_once j n (moves.Lends to object class) (
        o,
        record {
          packet = packet;
          since = since;
          packed = packed;
          among = one;
          able = (h.1, refl);
        },
        omega (arith, room),
      )) behind))

  -- a message is packed, and its names are sent
  pub packet_sent : is_open first to ≡ true → NamedBy first to packet.names →
      length (lends_of to packet) ≤ most_names →
      Walks j first [] [] (lending (lends_of to packet) first)
      (noted to (packet_atoms packet)) []
  packet_sent o h few =
      walks_on j
      (walks_once j first (moves.Packs to packet) (o, since_itself first, packed))
      (names_sent packet.names first o (since_itself first) (λ x i. i) h
      (omega (arith, few)))
