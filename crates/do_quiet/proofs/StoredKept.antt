-- Where nothing is on its way and nothing is lent, what is stored is what all nodes together keep.
use Rattle.std.proofs.Common.{◌≡◌, ◌==◌, ◌∙◌, ◌++◌, ◌||◌, ◌&&◌, inl, inr, ℕ, Bool, true, false}
use Rattle.std.proofs.Common.{cond, List, [], ◌∷◌, map, refl, sym, ap, subst, arith}
use Rattle.std.specs.{Prelude.{None, Option, Some, is_some}, List.list_any}
use Rattle.std.proofs.lemmas.{Bool.Decides.nat_tests, List.Concat.flat_map-cons}
use Rattle.std.proofs.lemmas.List.Folds.{list_any-append}
use Rattle.do_base.specs.names.Names.{ObjectName}
use Rattle.do_packet.specs.Met.{has_object, same_object}
use Rattle.do_machine.specs.declared.{item.Item.Item, node.{Node.Node, Stored.Stored}}
use Rattle.do_machine.specs.{declared.state.State.State, Entry.{has_entry, is_holder}}
use Rattle.do_machine.specs.Entry.{is_on_its_way_back, is_reached, is_under_way}
use Rattle.do_machine.specs.{Items.{exported, released}, Lists.{IsIn, some_passes}}
use Rattle.do_machine.specs.{Objects.object_at, State.{holds, is_open, node, own, queue, stored}}
use Rattle.do_machine.specs.held.{Kept.is_root, Refers.{heap_objects, objects_in, stack_objects}}
use Rattle.do_machine.proofs.Bools.{or_cases}
use Rattle.do_quiet.specs.Keeping.{AreKeptByAll, ByInvocation, ByRoot, BySlot, IsHeldUp, NodesKeep}
use Rattle.do_facts.specs.Made.{is_stored}
use Rattle.do_quiet.specs.Quiet.{NothingLent, NothingWaits}

-- an object that slots name is named by those of a stored object
pub heap_found : (xs : List Stored) (o : ObjectName) → has_object (heap_objects xs) o ≡ true →
    (x : Stored) × IsIn xs x × (has_object (objects_in x.slots) o ≡ true)
heap_found [] o h = absurd (cc)
heap_found (x ∷ xs) o h =
    elim (or_cases (has_object (objects_in x.slots) o) (has_object (heap_objects xs) o)
    (sym (list_any-append (same_object o) (objects_in x.slots) (heap_objects xs))
    ∙ ap (list_any (same_object o)) (sym (flat_map-cons (λ (y : Stored). objects_in y.slots) x xs))
    ∙ h)) [
      | inl e ↦ (x, inl refl, e)
      | inr e ↦ let f = heap_found xs o e in (f.0, inr f.1, f.2)
    ]

-- a stored object is in the heap
stored_in : (xs : List Stored) (s : ℕ) → is_some (stored s xs) ≡ true →
    (x : Stored) × IsIn xs x × (x.serial ≡ s)
stored_in [] s h = absurd (cc)
stored_in (x ∷ xs) s h = go (x.serial == s) refl (stored_in xs s) h
  where
    go : (b : Bool) → (x.serial == s) ≡ b →
        (is_some (stored s xs) ≡ true → (y : Stored) × IsIn xs y × (y.serial ≡ s)) →
        is_some (cond b (Some x) (stored s xs)) ≡ true →
        (y : Stored) × IsIn (x ∷ xs) y × (y.serial ≡ s)
    go true e k h' = (x, inl refl, grind (arith, nat_tests, e))
    go false e k h' = let f = k h' in (f.0, inr f.1, f.2)

-- what is in the heap is stored
in_stored : (xs : List Stored) (x : Stored) → IsIn xs x → is_some (stored x.serial xs) ≡ true
in_stored [] x h = absurd h
in_stored (y ∷ ys) x (inl e) =
    subst (λ z. is_some (stored z.serial (y ∷ ys)) ≡ true) e (grind (arith, nat_tests))
in_stored (y ∷ ys) x (inr i) =
    let more = in_stored ys x i in
    grind (arith, nat_tests, more)

-- a number that passes
pub passing : (f : ℕ → Bool) (ps : List ℕ) → list_any f ps ≡ true → (p : ℕ) × (f p ≡ true)
passing f [] h = absurd (cc)
passing f (p ∷ ps) h = elim (or_cases (f p) (list_any f ps) h) [
  | inl x ↦ (p, x)
  | inr x ↦ passing f ps x
]

module _ (S : State) (keep : NodesKeep S) (waits : NothingWaits S) (none : NothingLent S)
    (o : ObjectName) where
  -- an object that a slot names is held up
  by_slot : (p : ℕ) (n : Node) → node S p ≡ Some n →
      has_object (heap_objects n.heap) o ≡ true → IsHeldUp S (is_stored S) o
  by_slot p n e h =
      let f = heap_found n.heap o h in
      BySlot p n f.0 e f.1
      (ap (some_passes (λ (m : Node). is_some (stored f.0.serial m.heap))) e
      ∙ in_stored n.heap f.0 f.1)
      f.2

  -- what a node refers to is in its slots or invocations
  referred : (n : Node) → n.lent ≡ [] → n.asked ≡ [] →
      has_object (heap_objects n.heap ++ stack_objects n.stack
      ++ map (λ l. l.object) n.lent ++ map (λ w. w.object) n.asked) o ≡ true →
      (has_object (heap_objects n.heap) o || has_object (stack_objects n.stack) o) ≡ true
  referred n e f h = grind (arith, list_any-append, e, f, h)

  -- a foreign object that is held is held up
  by_holder : (p : ℕ) (n : Node) → node S p ≡ Some n → holds n o ≡ true →
      IsHeldUp S (is_stored S) o
  by_holder p n e h =
      let either = or_cases (has_object (heap_objects n.heap) o)
      (has_object (stack_objects n.stack) o)
      (referred n (none.lent p n e) (none.asked p n e) (keep.held p n e o h)) in
      elim either [
        | inl x ↦ by_slot p n e x
        | inr x ↦ ByInvocation p n e x
      ]

  -- both of two tests pass
  second : (a b : Bool) → (a && b) ≡ true → b ≡ true
  second true b h = h
  second false b h = absurd (cc)

  -- nothing is found in a queue
  not_queued : (f : Item → Bool) (a b : ℕ) (found : Option (List Item)) → queue S a b ≡ found →
      some_passes (list_any f) found ≡ true → ⊥
  not_queued f a b None e h = cc
  not_queued f a b (Some items) e h = no (sym (ap (list_any f) (waits.empty a b items e)) ∙ h)
    where
      no : false ≡ true → ⊥
      no x = cc

  -- a peer that holds it is a node
  holder_there : (p : ℕ) (found : Option Node) → node S p ≡ found →
      some_passes (is_holder o) found ≡ true → IsHeldUp S (is_stored S) o
  holder_there p None e h = absurd (cc)
  holder_there p (Some n) e h = by_holder p n e (second (is_open n o.node) (holds n o) h)

  -- an object with an entry is held up
  by_entry : (peer : ℕ) → has_entry S peer o ≡ true → IsHeldUp S (is_stored S) o
  by_entry peer h =
      let held = some_passes (is_holder o) (node S peer) in
      let out = is_under_way S peer o in
      let back = is_on_its_way_back S peer o in
      elim (or_cases (held || out) back
      (second (is_reached S peer o) ((held || out) || back) h)) [
        | inl x ↦ elim (or_cases held out x) [
          | inl y ↦ holder_there peer (node S peer) refl y
          | inr y ↦ absurd (not_queued (λ item. has_object (exported o.node peer item) o) o.node
              peer (queue S o.node peer) refl y)
        ]
        | inr x ↦ absurd (not_queued (λ item. has_object (released peer o.node item) o) peer
            o.node (queue S peer o.node) refl x)
      ]

  -- a stored object is held up
  stored_there : (found : Option Node) → node S o.node ≡ found →
      some_passes (λ n. is_some (stored o.serial n.heap)) found ≡ true →
      IsHeldUp S (is_stored S) o
  stored_there None e h = absurd (cc)
  stored_there (Some n) e h =
      let f = stored_in n.heap o.serial h in
      let s : ℕ = f.0.serial in
      let same : own n s ≡ o =
      ap (λ p. object_at p s) (keep.port o.node n e) ∙ ap (object_at o.node) f.2 in
      let entry : ℕ → Bool = λ peer. has_entry S peer (own n s) in
      let root = is_root n s in
      let stack = has_object (stack_objects n.stack) (own n s) in
      let peers = list_any entry n.open_to in
      let slots = has_object (heap_objects n.heap) (own n s) in
      elim (or_cases ((root || stack) || peers) slots
      ((keep.heap o.node n e).stay f.0 f.1)) [
        | inl x ↦ elim (or_cases (root || stack) peers x) [
          | inl y ↦ elim (or_cases root stack y) [
            | inl z ↦ ByRoot n e (subst (λ k. is_root n k ≡ true) f.2 z)
            | inr z ↦ ByInvocation o.node n e
                (subst (λ k. has_object (stack_objects n.stack) k ≡ true) same z)
          ]
          | inr y ↦
              let q = passing entry n.open_to y in
              by_entry q.0 (subst (λ k. has_entry S q.0 k ≡ true) same q.1)
        ]
        | inr x ↦ by_slot o.node n e
            (subst (λ k. has_object (heap_objects n.heap) k ≡ true) same x)
      ]

-- what is stored is what all nodes keep
pub stored_kept_by_all : (S : State) → NodesKeep S → NothingWaits S → NothingLent S →
    AreKeptByAll S (is_stored S)
stored_kept_by_all S keep waits none = record {
  part = λ o h. h;
  held_up = λ o h. stored_there S keep waits none o (node S o.node) refl h;
  greatest = λ others stand up o h. stand o h;
}
