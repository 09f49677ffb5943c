-- What is held up beside slots, as one list, is what the definitions ask of each object.
use mathlib.Core.Path.{fun_ext}
use Rattle.std.proofs.Common.{◌≡◌, ℕ, Bool, true, false, cond, List, [], ◌∷◌, ◌++◌, filter, refl}
use Rattle.std.proofs.Common.{ap, ◌∙◌, length, arith}
use Rattle.std.specs.{Prelude.{None, Option, Some, ◌&&◌, ◌||◌}, List.{flat_map, list_all, list_any}}
use Rattle.std.proofs.lemmas.List.{Elements.filter_agree, Folds.list_any-append}
use Rattle.do_base.specs.names.Names.{ObjectName}
use Rattle.do_packet.specs.Met.{has_object, same_object}
use Rattle.do_machine.specs.declared.{item.Item.Item, node.{Node.Node, Stored.Stored}}
use Rattle.do_machine.specs.{declared.state.State.State, Entry.{has_entry, is_holder}}
use Rattle.do_machine.specs.{Entry.{is_on_its_way_back, is_under_way}, Items.{exported, released}}
use Rattle.do_machine.specs.{Lists.some_passes, Objects.object_at, State.{holds, is_open, node}}
use Rattle.do_machine.specs.{State.{own, queue}, held.Kept.{is_held_up, is_root, kept, stays}}
use Rattle.do_machine.specs.held.{Kept.{struck, struck_by}, Refers.{heap_objects, stack_objects}}
use Rattle.do_rules.proofs.{Exports.{all_exports, all_releases}, Striking.round_last}
use Rattle.do_rules.specs.Exporting.{exports_of, releases_of}
use Rattle.do_rules.specs.{HeldUp.{entered, held_of, held_up, named_by, stays_by}, Judged.entry_in}

-- an object is among those of all elements where it is among those of one
any_flat : {X : Type 0} (f : X → List ObjectName) (xs : List X) (o : ObjectName) →
    has_object (flat_map f xs) o ≡ list_any (λ x. has_object (f x) o) xs
any_flat f [] o = refl
any_flat f (x ∷ xs) o =
    list_any-append (same_object o) (f x) (flat_map f xs)
    ∙ ap (λ b. has_object (f x) o || b) (any_flat f xs o)

-- an object is among those that queued items name in a way where one item names it so
any_named : (f g : Item → List ObjectName) → ((item : Item) → f item ≡ g item) →
    (m : Option (List Item)) (o : ObjectName) →
    has_object (named_by f m) o ≡ some_passes (list_any (λ item. has_object (g item) o)) m
any_named f g same None o = refl
any_named f g same (Some is) o =
    any_flat f is o
    ∙ ap (λ t. list_any t is) (fun_ext (λ item. ap (λ os. has_object os o) (same item)))

-- an object of a home is among those that a peer holds over an open end where the peer holds it
held_is : (home serial : ℕ) (m : Option Node) → has_object (held_of home m) (object_at home serial)
    ≡ some_passes (is_holder (object_at home serial)) m
held_is home serial None = refl
held_is home serial (Some n) =
    elim (is_open n home) as (λ b.
    has_object (cond b n.held []) (object_at home serial)
    ≡ (b && holds n (object_at home serial))) [
      | true ↦ refl
      | false ↦ refl
    ]

or_assoc : (a b c : Bool) → (a || (b || c)) ≡ ((a || b) || c)
or_assoc true b c = refl
or_assoc false b c = refl

-- an object of the home is among those with an entry where it has one
entered_is : (S : State) (home peer serial : ℕ) →
    has_object (entered S home peer) (object_at home serial)
    ≡ has_entry S peer (object_at home serial)
entered_is S home peer serial =
    let o : ObjectName = object_at home serial in
    let held : List ObjectName = held_of home (node S peer) in
    let going : List ObjectName = named_by (exports_of home) (queue S home peer) in
    let coming : List ObjectName = named_by (releases_of home) (queue S peer home) in
    elim (some_passes (λ n. is_open n peer) (node S home)) as (λ b.
    has_object (cond b (held ++ (going ++ coming)) []) o
    ≡ (b && (some_passes (is_holder o) (node S peer)
    || is_under_way S peer o || is_on_its_way_back S peer o))) [
      | true ↦
          list_any-append (same_object o) held (going ++ coming)
          ∙ ap (λ b. b || has_object (going ++ coming) o) (held_is home serial (node S peer))
          ∙ ap (λ b. some_passes (is_holder o) (node S peer) || b)
          (list_any-append (same_object o) going coming
          ∙ ap (λ b. b || has_object coming o)
          (any_named (exports_of home) (exported home peer) (all_exports home peer)
          (queue S home peer) o)
          ∙ ap (λ b. is_under_way S peer o || b)
          (any_named (releases_of home) (released peer home) (all_releases peer home)
          (queue S peer home) o))
          ∙ or_assoc (some_passes (is_holder o) (node S peer)) (is_under_way S peer o)
          (is_on_its_way_back S peer o)
      | false ↦ refl
    ]

-- so it is asked of the list
pub entry_is : (S : State) (peer : ℕ) (o : ObjectName) (home : ℕ) (os : List ObjectName) →
    home ≡ o.node → os ≡ entered S home peer → has_object os o ≡ has_entry S peer o
entry_is S peer o home os same is =
    ap (λ ps. has_object ps o) (is ∙ ap (λ port. entered S port peer) same)
    ∙ entered_is S o.node peer o.serial

-- an own object is the root or among those held up where it is held up beside slots
held_up_is : (S : State) (n : Node) (serial : ℕ) →
    (is_root n serial || has_object (held_up S n) (own n serial))
    ≡ is_held_up (entry_in S n) n serial
held_up_is S n serial =
    let o : ObjectName = own n serial in
    let peers = any_flat (entered S n.port) n.open_to o
    ∙ ap (λ f. list_any f n.open_to) (fun_ext (λ peer. entered_is S n.port peer serial)) in
    ap (λ b. is_root n serial || b)
    (list_any-append (same_object o) (stack_objects n.stack)
    (flat_map (entered S n.port) n.open_to)
    ∙ ap (λ b. has_object (stack_objects n.stack) o || b) peers)
    ∙ or_assoc (is_root n serial) (has_object (stack_objects n.stack) o)
    (list_any (λ peer. entry_in S n peer serial) n.open_to)

-- so what is left by the list is what is struck by the definition
pub struck_is : (S : State) (n : Node) (heap fewer : List Stored) (held : List ObjectName) →
    held ≡ held_up S n → fewer ≡ filter (stays_by held n heap) heap →
    fewer ≡ struck (entry_in S n) n heap
struck_is S n heap fewer held h is =
    is ∙ ap (λ os. filter (stays_by os n heap) heap) h
    ∙ filter_agree (stays_by (held_up S n) n heap) (stays (entry_in S n) n heap)
    (λ x. ap (λ b. b || has_object (heap_objects heap) (own n x.serial)) (held_up_is S n x.serial))
    heap

-- what stays even with no entry stays
stays_so : (S : State) (n : Node) (heap : List Stored) (x : Stored) →
    stays_by (stack_objects n.stack) n heap x ≡ true → stays (entry_in S n) n heap x ≡ true
stays_so S n heap x =
    more (is_root n x.serial) (has_object (stack_objects n.stack) (own n x.serial))
    (list_any (λ peer. entry_in S n peer x.serial) n.open_to)
    (has_object (heap_objects heap) (own n x.serial))
  where
    more : (a b c d : Bool) → ((a || b) || d) ≡ true → ((a || b || c) || d) ≡ true
    more true b c d h = refl
    more false true c d h = refl
    more false false true d h = refl
    more false false false d h = h

-- where all pass one test and what passes it passes another, all pass that one
all_left : {X : Type 0} (p q : X → Bool) (xs : List X) → list_all p xs ≡ true →
    ((x : X) → p x ≡ true → q x ≡ true) → xs ≡ filter q xs
all_left p q [] all pass = refl
all_left p q (x ∷ xs) all pass =
    elim (p x) as (λ b. p x ≡ b → (b && list_all p xs) ≡ true → x ∷ xs ≡ filter q (x ∷ xs)) [
      | true ↦ λ e rest. rw (pass x e) (ap (λ ys. x ∷ ys) (all_left p q xs rest pass))
      | false ↦ λ e rest. cc
    ] refl all

-- rounds that strike nothing
stay_whole : (entry : ℕ → ℕ → Bool) (n : Node) (heap : List Stored) →
    heap ≡ struck entry n heap → heap ≡ struck_by (length heap) entry n heap
stay_whole entry n [] h = refl
stay_whole entry n (x ∷ xs) h =
    round_last (length (x ∷ xs)) entry n (x ∷ xs) (x ∷ xs)
    (struck_by (length (x ∷ xs)) entry n (x ∷ xs)) (omega arith) h refl refl

-- where each object stays even with no entry, the heap is kept whole
pub all_kept : (S : State) (n : Node) →
    list_all (stays_by (stack_objects n.stack) n n.heap) n.heap ≡ true →
    n.heap ≡ kept (entry_in S n) n
all_kept S n all =
    stay_whole (entry_in S n) n n.heap
    (all_left (stays_by (stack_objects n.stack) n n.heap) (stays (entry_in S n) n n.heap) n.heap
    all (stays_so S n n.heap))
