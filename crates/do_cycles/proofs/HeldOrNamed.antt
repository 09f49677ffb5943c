-- What a node stores is named by the state, or held by a slot of a stored object.
use Rattle.std.proofs.Common.{◌≡◌, ◌==◌, ◌∙◌, ◌++◌, ◌||◌, ◌⊎◌, ℕ, Bool, true, List, [], ◌∷◌, map}
use Rattle.std.proofs.Common.{Option, Some, None, refl, sym, ap, inl, inr, arith}
use Rattle.std.specs.{Prelude.is_some, List.list_any}
use Rattle.std.proofs.lemmas.Bool.{and_parts, Decides.nat_tests}
use Rattle.do_base.specs.names.Names.{ObjectName}
use Rattle.do_leaks.specs.{Heap.heap_of, Leaks.holder}
use Rattle.do_leaks.proofs.Named.{in_either, in_left, in_right}
use Rattle.do_lost.specs.Named.{named, node_names, root_names, root_of}
use Rattle.do_machine.specs.declared.{node.{Node.Node, Stored.Stored}, state.State.State}
use Rattle.do_machine.specs.{declared.state.Station.Station, Entry.{has_entry, is_holder}}
use Rattle.do_machine.specs.{Lists.{IsIn, some_passes}, State.{holds, is_open, node, own}}
use Rattle.do_machine.specs.{check.Snapshot.{object_line, snapshot}, held.Kept.is_root}
use Rattle.do_machine.specs.held.Refers.{heap_objects, node_objects, stack_objects}
use Rattle.do_machine.proofs.Bools.{or_cases}
use Rattle.do_packet.specs.Met.{has_object}
use Rattle.do_quiet.{specs.Keeping.NodesKeep, proofs.StoredKept.{heap_found, passing}}
use Rattle.do_cycles.proofs.Among.{node_named, own_named, stored_listed}
use Rattle.do_cycles.proofs.{StationsOfPorts.IsFoundOrOpens, SlotsHold.held_by_line}
use Rattle.do_cycles.proofs.EntriesNamed.{entry_held_or_named}

-- a root is named
root_named : (n : Node) (serial : ℕ) → is_root n serial ≡ true →
    has_object (root_names n) (own n serial) ≡ true
root_named n serial h = go n.root h
  where
    go : (r : Option ℕ) → some_passes (λ r. r == serial) r ≡ true →
        has_object (root_of n r) (own n serial) ≡ true
    go None e = absurd (cc)
    go (Some r) e = grind (arith, nat_tests, e)

-- the first of four lists stands before the others
grouped : (ps qs rs ss : List ObjectName) → ps ++ qs ++ rs ++ ss ≡ ps ++ (qs ++ rs ++ ss)
grouped [] qs rs ss = refl
grouped (p ∷ ps) qs rs ss = ap (λ os. p ∷ os) (grouped ps qs rs ss)

-- what invocations, lends and asks of a node name
abbrev in_use : Node → List ObjectName
in_use n = stack_objects n.stack ++ map (λ l. l.object) n.lent ++ map (λ w. w.object) n.asked

-- a node names its root and what is in use
named_parts : (n : Node) → node_names n ≡ root_names n ++ in_use n
named_parts n =
    grouped (root_names n) (stack_objects n.stack) (map (λ l. l.object) n.lent)
    (map (λ w. w.object) n.asked)

-- it refers to what its slots name, and to what is in use
referred_parts : (n : Node) → node_objects n ≡ heap_objects n.heap ++ in_use n
referred_parts n =
    grouped (heap_objects n.heap) (stack_objects n.stack) (map (λ l. l.object) n.lent)
    (map (λ w. w.object) n.asked)

module _ (S : State) (keep : NodesKeep S) (o : ObjectName) where
  -- the object is named by the state, or held by a slot
  abbrev IsHeldOrNamed : Type 0
  IsHeldOrNamed = (has_object (named S) o ≡ true)
      ⊎ (is_some (holder (heap_of (snapshot S)) o) ≡ true)

  -- an object that slots of a node name
  by_slots : (port : ℕ) (n : Node) → node S port ≡ Some n →
      has_object (heap_objects n.heap) o ≡ true → IsHeldOrNamed
  by_slots port n e h =
      let f = heap_found n.heap o h in
      inr (held_by_line (heap_of (snapshot S)) (object_line n f.0) o
      (stored_listed S port n e f.0 f.1) f.2)

  -- an object that is in use
  by_use : (port : ℕ) (n : Node) → node S port ≡ Some n → has_object (in_use n) o ≡ true →
      IsHeldOrNamed
  by_use port n e h =
      inl (node_named S o port n e
      (ap (λ os. has_object os o) (named_parts n) ∙ in_right (root_names n) (in_use n) o h))

  -- a root
  by_root : (port : ℕ) (n : Node) → node S port ≡ Some n → has_object (root_names n) o ≡ true →
      IsHeldOrNamed
  by_root port n e h =
      inl (node_named S o port n e
      (ap (λ os. has_object os o) (named_parts n) ∙ in_left (root_names n) (in_use n) o h))

  -- an object that an invocation names
  by_stack : (port : ℕ) (n : Node) → node S port ≡ Some n →
      has_object (stack_objects n.stack) o ≡ true → IsHeldOrNamed
  by_stack port n e h =
      by_use port n e
      (in_left (stack_objects n.stack ++ map (λ l. l.object) n.lent) (map (λ w. w.object) n.asked)
      o (in_left (stack_objects n.stack) (map (λ l. l.object) n.lent) o h))

  -- a foreign object that a node holds
  by_holder : (port : ℕ) (found : Option Node) → node S port ≡ found →
      some_passes (is_holder o) found ≡ true → IsHeldOrNamed
  by_holder port None e h = absurd (cc)
  by_holder port (Some n) e h =
      elim (in_either (heap_objects n.heap) (in_use n) o
      (ap (λ os. has_object os o) (sym (referred_parts n))
      ∙ keep.held port n e o (and_parts (is_open n o.node) (holds n o) h).1)) [
        | inl x ↦ by_slots port n e x
        | inr x ↦ by_use port n e x
      ]

  -- an object with an entry
  by_entry : (peer : ℕ) → has_entry S peer o ≡ true → IsHeldOrNamed
  by_entry peer h = elim (entry_held_or_named S o peer h) [
    | inl y ↦ by_holder peer (node S peer) refl y
    | inr y ↦ inl y
  ]

-- an object that a station stores is named by the state, or held by a slot
pub held_or_named : (S : State) (keep : NodesKeep S) (s : Station) → IsIn S.stations s →
    IsFoundOrOpens S s → (x : Stored) → IsIn s.node.heap x →
    IsHeldOrNamed S keep (own s.node x.serial)
held_or_named S keep s i (inr opens) x j =
    let o = own s.node x.serial in
    inl (own_named S o s i
    (ap (λ os. has_object os o) (named_parts s.node)
    ∙ in_left (root_names s.node) (in_use s.node) o
    (root_named s.node x.serial (opens.alone x j))))
held_or_named S keep s i (inl e) x j =
    let n : Node = s.node in
    let serial : ℕ = x.serial in
    let o = own n serial in
    let entry : ℕ → Bool = λ peer. has_entry S peer o in
    let root = is_root n serial in
    let stack = has_object (stack_objects n.stack) o in
    let peers = list_any entry n.open_to in
    let slots = has_object (heap_objects n.heap) o in
    elim (or_cases ((root || stack) || peers) slots ((keep.heap s.port n e).stay x j)) [
      | inl a ↦ elim (or_cases (root || stack) peers a) [
        | inl b ↦ elim (or_cases root stack b) [
          | inl c ↦ by_root S keep o s.port n e (root_named n serial c)
          | inr c ↦ by_stack S keep o s.port n e c
        ]
        | inr b ↦ let q = passing entry n.open_to b in by_entry S keep o q.0 q.1
      ]
      | inr a ↦ by_slots S keep o s.port n e a
    ]
