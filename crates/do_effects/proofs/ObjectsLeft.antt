-- How much a node frees and leaves.
use Rattle.do_base.specs.declared.events.shown.Shown.TheVariants as shows
use Rattle.do_machine.specs.declared.item.Item.TheVariants as items
use Rattle.std.proofs.Common.{◌≡◌, ℕ, ◌≤◌, ◌==◌, Bool, true, false, cond, List, [], ◌∷◌, ◌++◌}
use Rattle.std.proofs.Common.{length, ap, sym, subst, suc, zero, arith}
use Rattle.std.specs.{Prelude.{filter, fold, map, not}, List.list_any}
use Rattle.std.proofs.lemmas.List.{append-nil, length-map}
use Rattle.do_base.specs.names.Names.{ObjectName}
use Rattle.do_packet.specs.Met.{has_object}
use Rattle.do_machine.specs.{State.own, held.Kept.{kept, stays, struck, struck_by}}
use Rattle.do_machine.specs.held.Refers.{node_objects}
use Rattle.do_base.specs.declared.events.shown.Shown.{Shown}
use Rattle.do_machine.specs.{Objects.object_at, declared.node.{Node.Node, Stored.Stored}}
use Rattle.do_machine.specs.{declared.state.Parcel.Parcel, ends.Closing.asked_of}
use Rattle.do_export.specs.Counts.{Counts}
use Rattle.do_machine.specs.held.Leaving.{leaving}
use Rattle.do_network.specs.{Counting.counted, Frames.{Posted, all_posted, posted}}
use Rattle.do_part.specs.Left.{given_up}
use Rattle.do_network.specs.{Links.{Outbox, sending}, Own.{Own, is_counted}}
use Rattle.do_effects.specs.{Bounded.HasNoMore, Doing.{Doing, cleared, moved}}

-- of a list at most all passes a test
pub few_pass : {X : Type 0} (test : X → Bool) (xs : List X) → length (filter test xs) ≤ length xs
few_pass test [] = omega arith
few_pass test (x ∷ xs) =
    elim (test x) as (λ b. length (cond b (x ∷ filter test xs) (filter test xs))
    ≤ suc (length xs)) [
      | true ↦ let behind = few_pass test xs in omega (arith, behind)
      | false ↦ let behind = few_pass test xs in omega (arith, behind)
    ]

-- what comes of each that passes is no more
pub few_made : {X Y : Type 0} (f : X → Y) (test : X → Bool) (xs : List X) →
    length (map f (filter test xs)) ≤ length xs
few_made f test xs =
    subst (λ n. n ≤ length xs) (sym (length-map (filter test xs) f)) (few_pass test xs)

-- no more is freed than is stored
pub few_freed : (p : Own) → length (leaving (is_counted p) p.node).shown ≤ length p.node.heap
few_freed p =
    subst (λ (lines : List Shown). length lines ≤ length p.node.heap) (sym (append-nil _))
    (few_made (λ x. shows.Free (own p.node x.serial))
    (λ x. not (list_any (λ y. y.serial == x.serial) (kept (is_counted p) p.node))) p.node.heap)

-- and no more left than is held
pub few_left : (p : Own) → length (leaving (is_counted p) p.node).sent ≤ length p.node.held
few_left p =
    let m = record p.node { heap = kept (is_counted p) p.node } in
    few_made (λ (o : ObjectName). record { to = o.node; item = items.Left o.serial })
    (λ o. not (has_object (node_objects m) o)) p.node.held

-- what is kept is not more than what it is kept of
few_struck : (rounds : ℕ) (entry : ℕ → ℕ → Bool) (n : Node) (heap : List Stored) →
    length (struck_by rounds entry n heap) ≤ length heap
few_struck zero entry n heap = omega arith
few_struck (suc rounds) entry n heap =
    let fewer = struck entry n heap in
    let few = few_struck rounds entry n fewer in
    let pass = few_pass (stays entry n heap) heap in
    elim (length fewer == length heap) as (λ b. length (elim b as (λ _. List Stored) [
      | true ↦ heap
      | false ↦ struck_by rounds entry n fewer
    ]) ≤ length heap) [
      | true ↦ omega arith
      | false ↦ omega (arith, few, pass)
    ]

-- so a node that frees and leaves has no more than before
pub left_fewer : (p : Own) → HasNoMore p.node (leaving (is_counted p) p.node).node
left_fewer p =
    let m = record p.node { heap = kept (is_counted p) p.node } in
    record {
      stored = few_struck (length p.node.heap) (is_counted p) p.node p.node.heap;
      held = few_pass (has_object (node_objects m)) p.node.held;
      asked = omega arith;
    }

-- what is shown and told is the move that leaves what nothing holds
pub left_done : (p q : Own) (o : Outbox) (shown lines : List Shown) (posts : List Posted) →
    let d = leaving (is_counted p) p.node in
    q ≡ counted p d → lines ≡ d.shown → posts ≡ all_posted p.received d.sent →
    let now : Doing = record { own = q; out = fold sending o posts; shown = shown ++ lines } in
    now ≡ moved (record { own = p; out = o; shown = shown }) (cleared p)
left_done p q o shown lines posts own_is lines_are posts_are = λ j. record {
  own = own_is j;
  out = fold sending o (posts_are j);
  shown = shown ++ lines_are j;
}

-- freed objects are shown by the node's port alone
pub shown_by_port : (n m : Node) (serials : List ℕ) → n.port ≡ m.port →
    map (λ serial. shows.Free (own n serial)) serials
    ≡ map (λ serial. shows.Free (own m serial)) serials
shown_by_port n m serials e =
    ap (λ port. map (λ serial. shows.Free (object_at port serial)) serials) e

-- as many lines as serials
pub few_lines : (n : Node) (serials : List ℕ) (lines : List Shown) (most : ℕ) →
    map (λ serial. shows.Free (own n serial)) serials ≡ lines → length lines ≤ most →
    length serials ≤ most
few_lines n serials lines most e few =
    let a = length-map serials (λ serial. shows.Free (own n serial)) in
    let b = ap (λ (xs : List Shown). length xs) e in
    omega (arith, a, b, few)

-- as many frames as objects
pub few_frames : (received : Counts) (sent : List Parcel) (left : List (ObjectName × ℕ))
    (most : ℕ) →
    map given_up left ≡ all_posted received sent → length sent ≤ most → length left ≤ most
few_frames received sent left most e few =
    let a = length-map left given_up in
    let b = ap (λ (xs : List Posted). length xs) e in
    let d = length-map sent (posted received) in
    omega (arith, a, b, d, few)

-- no more lenders are told than there are asks
pub few_settled : (peer : ℕ) (n : Node) → length (map (λ w. w.token) (asked_of peer n))
    ≤ length n.asked
few_settled peer n = few_made (λ w. w.token) (λ w. w.object.node == peer) n.asked
