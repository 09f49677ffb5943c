-- Frames that a node owed before it closes an end, and before it leaves what nothing holds.
use Rattle.std.proofs.Common.{◌≡◌, ◌≤◌, ◌+◌, ◌==◌, ◌||◌, ℕ, List, [], ◌∷◌, ap, arith, cond, length}
use Rattle.std.proofs.Common.{Bool, false, not, refl, suc, true}
use Rattle.std.specs.{Prelude.{filter, map}, List.list_any}
use Rattle.std.proofs.lemmas.{Bool.false≢true, List.{length-map, Filters.length-filter_both}}
use Rattle.do_base.specs.names.Names.{ObjectName}
use Rattle.do_packet.specs.Met.{has_object}
use Rattle.do_export.specs.Counts.{Counts}
use Rattle.do_machine.specs.declared.{node.{Node.Node, Wanted.Wanted}, state.Parcel.Parcel}
use Rattle.do_machine.specs.{State.is_open, ends.Closing.{asked_of, parted}, held.Kept.kept}
use Rattle.do_machine.specs.held.{Leaving.{leaving, left}, Refers.node_objects}
use Rattle.do_network.specs.{Frames.{Posted, all_posted, posted}, Own.{Own, is_counted}}
use Rattle.do_part.specs.Left.{given_up}
use Rattle.do_effects.{specs.Paying.owed, proofs.ObjectsLeft.few_pass}

-- without a port that is among some there are fewer
one_fewer : (peer : ℕ) (ports : List ℕ) → list_any (λ p. p == peer) ports ≡ true →
    length (filter (λ p. not (p == peer)) ports) + 1 ≤ length ports
one_fewer peer [] there = absurd (false≢true there)
one_fewer peer (x ∷ xs) there =
    let few = few_pass (λ p. not (p == peer)) xs in
    elim (x == peer) as (λ b. (b || list_any (λ p. p == peer) xs) ≡ true →
    length (cond (not b) (x ∷ filter (λ p. not (p == peer)) xs)
    (filter (λ p. not (p == peer)) xs)) + 1 ≤ suc (length xs)) [
      | true ↦ (λ here. omega (arith, few))
      | false ↦ (λ behind. let less = one_fewer peer xs behind in omega (arith, less))
    ] there

-- a node that is parted from a peer owes its shutdown no more, nor the ends of lends that it asked
-- the peer for
pub parted_owes : (peer : ℕ) (n m : Node) → m ≡ parted peer n → is_open n peer ≡ true →
    owed m + length (map (λ (w : Wanted). w.token) (asked_of peer n)) + 1 ≤ owed n
parted_owes peer n m is there =
    let held = few_pass (λ o. not (o.node == peer)) n.held in
    let asked = length-filter_both (λ w. w.object.node == peer) (λ w. not (w.object.node == peer))
    (λ w. refl) n.asked in
    let told = length-map (asked_of peer n) (λ w. w.token) in
    let ends = one_fewer peer n.open_to there in
    let now_held = ap (λ (x : Node). length x.held) is in
    let now_asked = ap (λ (x : Node). length x.asked) is in
    let now_ends = ap (λ (x : Node). length x.open_to) is in
    omega (arith, held, asked, told, ends, now_held, now_asked, now_ends)

-- as many frames as objects
pub same_frames : (received : Counts) (sent : List Parcel) (left : List (ObjectName × ℕ)) →
    map given_up left ≡ all_posted received sent → length left ≡ length sent
same_frames received sent left e =
    let a = length-map left given_up in
    let b = ap (λ (xs : List Posted). length xs) e in
    let d = length-map sent (posted received) in
    omega (arith, a, b, d)

-- a node that left what it no longer refers to owes no release of that
pub left_owes : (p : Own) → owed (leaving (is_counted p) p.node).node
    + length (leaving (is_counted p) p.node).sent ≤ owed p.node
left_owes p =
    let m = record p.node { heap = kept (is_counted p) p.node } in
    let gone : ObjectName → Bool = λ o. not (has_object (node_objects m) o) in
    let both = length-filter_both (has_object (node_objects m)) gone (λ o. refl) p.node.held in
    let told = length-map (filter gone p.node.held) left in
    omega (arith, both, told)
