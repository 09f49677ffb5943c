-- What a node keeps at the end of a step holds itself up in the state after it.
use Rattle.std.proofs.Common.{◌≡◌, ◌==◌, ◌&&◌, ◌||◌, ℕ, Bool, true, false, List, [], ◌∷◌, refl, inl}
use Rattle.std.proofs.Common.{inr, sym, ap, ◌∙◌}
use Rattle.std.specs.{Prelude.{None, Option, Some, option_and_then, option_map}, List.list_any}
use Rattle.std.proofs.lemmas.{Bool.eqb-true, List.Folds.list_any-append}
use Rattle.do_base.specs.names.Names.{ObjectName}
use Rattle.do_packet.specs.Met.{has_object}
use Rattle.do_machine.specs.declared.{item.Item.Item, node.{Node.Node, Stored.Stored}}
use Rattle.do_machine.specs.{declared.state.{Effect.Effect, State.State}, Commit.{commit, items_to}}
use Rattle.do_machine.specs.{Context.around, Entry.{has_entry, is_holder, is_on_its_way_back}}
use Rattle.do_machine.specs.{Entry.{is_reached, is_under_way}, Items.{exported, released}}
use Rattle.do_machine.specs.{Lists.{IsIn, some_passes}, Objects.object_at, State.{is_open, node}}
use Rattle.do_machine.specs.{State.{own, queue, queue_to}, held.Kept.{HoldsItself, is_root, kept}}
use Rattle.do_machine.specs.held.{Kept.stays, Leaving.leaving, Refers.{heap_objects, stack_objects}}
use Rattle.do_machine.proofs.Bools.{or_cases, or_left, or_right}
use Rattle.do_facts.proofs.machine.Frame.{elsewhere}
use Rattle.do_machine.proofs.Keeping.{are_kept}
use Rattle.do_facts.proofs.machine.{Queues.grows_behind, follows.States.changed}

-- both of two tests passed
first_passed : (a b : Bool) → (a && b) ≡ true → a ≡ true
first_passed true b h = refl
first_passed false b h = absurd (cc)

-- and the second
second_passed : (a b : Bool) → (a && b) ≡ true → b ≡ true
second_passed true b h = h
second_passed false b h = absurd (cc)

-- two tests that pass
both_pass : (a b : Bool) → a ≡ true → b ≡ true → (a && b) ≡ true
both_pass true b x y = y
both_pass false b x y = absurd (cc)

-- where some element passes, some passes a weaker test
some_still : (f g : ℕ → Bool) → ((p : ℕ) → f p ≡ true → g p ≡ true) → (ps : List ℕ) →
    list_any f ps ≡ true → list_any g ps ≡ true
some_still f g still [] h = absurd (cc)
some_still f g still (p ∷ ps) h = elim (or_cases (f p) (list_any f ps) h) [
  | inl x ↦ or_left (g p) (list_any g ps) (still p x)
  | inr x ↦ or_right (g p) (list_any g ps) (some_still f g still ps x)
]

module _ (port : ℕ) (U : State) (n : Node) (here : node U port ≡ Some n)
    (apart : is_open n port ≡ false) where
  -- what follows the step
  abbrev d : Effect
  d = leaving (around U n).entry n

  -- the state after it
  abbrev T : State
  T = commit port d U

  module _ (peer serial : ℕ) (other : (peer == port) ≡ false) where
    -- the object
    abbrev o : ObjectName
    o = object_at port serial

    -- what is on its way is so still
    under_way_still : (found : Option (List Item)) → queue U port peer ≡ found →
        some_passes (list_any (λ item. has_object (exported port peer item) o)) found ≡ true →
        is_under_way T peer o ≡ true
    under_way_still None q h = absurd (cc)
    under_way_still (Some w) q h =
        let f : Item → Bool = λ item. has_object (exported port peer item) o in
        ap (some_passes (list_any f)) (grows_behind port peer d U.stations w q)
        ∙ list_any-append f w (items_to peer d.sent)
        ∙ or_left (list_any f w) (list_any f (items_to peer d.sent)) h

    -- what is on its way back comes from another node
    back_still : is_on_its_way_back U peer o ≡ true → is_on_its_way_back T peer o ≡ true
    back_still h =
        ap (λ s. some_passes (list_any (λ item. has_object (released peer port item) o))
        (option_and_then (λ z. queue_to port z) s)) (elsewhere port peer d U.stations other)
        ∙ h

    -- a peer that holds it is another node
    held_still : some_passes (is_holder o) (node U peer) ≡ true →
        some_passes (is_holder o) (node T peer) ≡ true
    held_still h =
        ap (λ s. some_passes (is_holder o) (option_map (λ z. z.node) s))
        (elsewhere port peer d U.stations other)
        ∙ h

    -- what was in use at the peer, on its way there or back, is so still
    in_use_still : ((some_passes (is_holder o) (node U peer) || is_under_way U peer o)
        || is_on_its_way_back U peer o) ≡ true →
        ((some_passes (is_holder o) (node T peer) || is_under_way T peer o)
        || is_on_its_way_back T peer o) ≡ true
    in_use_still h =
        let held = some_passes (is_holder o) (node U peer) in
        let holds_still = some_passes (is_holder o) (node T peer) in
        let out_still = is_under_way T peer o in
        let back = is_on_its_way_back T peer o in
        elim (or_cases (held || is_under_way U peer o) (is_on_its_way_back U peer o) h) [
          | inl x ↦ or_left (holds_still || out_still) back
              (elim (or_cases held (is_under_way U peer o) x) [
                | inl y ↦ or_left holds_still out_still (held_still y)
                | inr y ↦ or_right holds_still out_still
                    (under_way_still (queue U port peer) refl y)
              ])
          | inr x ↦ or_right (holds_still || out_still) back (back_still x)
        ]

  -- the home's end is as it was
  reached_still : (peer serial : ℕ) →
      is_reached T peer (object_at port serial) ≡ is_reached U peer (object_at port serial)
  reached_still peer serial =
      ap (some_passes (λ m. is_open m peer)) (changed port d n U.stations here)
      ∙ ap (some_passes (λ m. is_open m peer)) (sym here)

  -- an entry stays
  entry_still : (peer serial : ℕ) → has_entry U peer (object_at port serial) ≡ true →
      has_entry T peer (object_at port serial) ≡ true
  entry_still peer serial h = go (peer == port) refl
    where
      go : (b : Bool) → (peer == port) ≡ b → has_entry T peer (object_at port serial) ≡ true
      go true e =
          let o = object_at port serial in
          absurd (no (first_passed (is_reached U peer o)
          ((some_passes (is_holder o) (node U peer) || is_under_way U peer o)
          || is_on_its_way_back U peer o) h)
          (ap (some_passes (λ m. is_open m peer)) here
          ∙ ap (is_open n) (eqb-true peer port e) ∙ apart))
        where
          no : is_reached U peer (object_at port serial) ≡ true →
              is_reached U peer (object_at port serial) ≡ false → ⊥
          no x y = cc
      go false e =
          let o = object_at port serial in
          let before = (some_passes (is_holder o) (node U peer) || is_under_way U peer o)
          || is_on_its_way_back U peer o in
          both_pass (is_reached T peer o)
          ((some_passes (is_holder o) (node T peer) || is_under_way T peer o)
          || is_on_its_way_back T peer o)
          (reached_still peer serial ∙ first_passed (is_reached U peer o) before h)
          (in_use_still peer serial e (second_passed (is_reached U peer o) before h))

  -- what is kept holds itself up in the state after it
  pub left_holds_up : n.port ≡ port → HoldsItself (around T d.node).entry d.node d.node.heap
  left_holds_up own_port = record { stay = holds_up }
    where
      holds_up : (x : Stored) → IsIn d.node.heap x →
          stays (around T d.node).entry d.node d.node.heap x ≡ true
      holds_up x i =
          let entry = (around U n).entry in
          let heap = kept entry n in
          let s = x.serial in
          let root = is_root n s in
          let stack = has_object (stack_objects n.stack) (own n s) in
          let peers = list_any (λ peer. entry peer s) n.open_to in
          let slots = has_object (heap_objects heap) (own n s) in
          let peers_still = list_any (λ peer. has_entry T peer (own n s)) n.open_to in
          let same : own n s ≡ object_at port s = ap (λ p. object_at p s) own_port in
          elim (or_cases ((root || stack) || peers) slots ((are_kept entry n).held_up.stay x i)) [
            | inl y ↦ or_left ((root || stack) || peers_still) slots
                (elim (or_cases (root || stack) peers y) [
                  | inl z ↦ or_left (root || stack) peers_still z
                  | inr z ↦ or_right (root || stack) peers_still
                      (some_still (λ peer. has_entry U peer (own n s))
                      (λ peer. has_entry T peer (own n s))
                      (λ peer q. ap (has_entry T peer) same
                      ∙ entry_still peer s (ap (has_entry U peer) (sym same) ∙ q)) n.open_to z)
                ])
            | inr y ↦ or_right ((root || stack) || peers_still) slots y
          ]
