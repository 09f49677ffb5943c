-- Nodes whose names a record may have.
use Rattle.do_base.specs.declared.events.shown.Shown.TheVariants as shown
use Rattle.std.proofs.Common.{Bool, List, [], arith, filter, length, map, not, suc, true, ℕ, ◌+◌}
use Rattle.std.proofs.Common.{◌==◌, ◌∷◌, ◌≡◌}
use Rattle.std.specs.{List.{AllByRecursion, list_any}, Prelude.{Option, ◌≤◌}}
use Rattle.do_class.specs.Class.{Class}
use Rattle.do_sched.specs.Good.{IsPort}
use Rattle.do_record.specs.GoodShown.{IsShown}
use Rattle.do_packet.specs.declared.receipt.Made.{Made}
use Rattle.do_behave.specs.declared.invocation.Invocation.{Invocation}
use Rattle.do_machine.{proofs.Keeping.are_kept, specs.{Objects.object_at, State.own}}
use Rattle.do_machine.specs.{World.opening_node, declared.node.{Node.Node, Stored.Stored}}
use Rattle.do_machine.specs.{declared.state.Seat.Seat, held.{Kept.kept, Leaving.leaving}}
use Rattle.do_machine.specs.run.Fresh.{with_objects, with_serials, with_stack}
use Rattle.do_facts.proofs.EachOfLists.{each_filtered, each_joined}
use Rattle.do_at_hand.proofs.{Leaves.of_part, Shown.AllName, Within.{InvocationWithin, NodeWithin}}
use Rattle.do_at_hand.proofs.Within.{RootWithin, blank_within, numbered}
use Rattle.do_showable.proofs.Naming.{is_nameable, named_at, object_stands}

-- A record may name an own object of each serial so far, and each object that slots, invocations
-- and a root name
pub record AreNamed (port next : ℕ) (heap : List Stored) (stack : List Invocation)
    (root : Option ℕ) : Type 0 where
  pub home : IsPort port
  pub first : 1 ≤ next
  pub own : AllByRecursion (λ x. is_nameable (object_at port x.serial) ≡ true) heap
  pub slots : AllByRecursion (λ x. AllName is_nameable x.slots) heap
  pub calls : AllByRecursion (InvocationWithin is_nameable) stack
  pub roots : RootWithin is_nameable port root

-- so it is with a node
abbrev pub IsNamed : Node → Type 0
IsNamed n = AreNamed n.port n.next_serial n.heap n.stack n.root

-- the serials that a node gave are from 1 to 2^63 - 1
abbrev pub IsSmall : Node → Type 0
IsSmall n = n.next_serial ≤ 9223372036854775808

-- its slots, its invocations and its root name only such objects
pub within : (n : Node) → IsNamed n → NodeWithin is_nameable n
within n h = record { heap = h.slots; stack = h.calls; root = h.roots }

-- the node with other invocations
pub restacked : (n : Node) (stack : List Invocation) → IsNamed n →
    AllByRecursion (InvocationWithin is_nameable) stack → IsNamed (with_stack stack n)
restacked n stack h calls = record {
  home = h.home;
  first = h.first;
  own = h.own;
  slots = h.slots;
  calls = calls;
  roots = h.roots;
}

-- new objects under their serials
numbered_own : (port serial : ℕ) → IsPort port → (new : List Made) → 1 ≤ serial →
    serial + length new ≤ 9223372036854775808 →
    AllByRecursion (λ x. is_nameable (object_at port x.serial) ≡ true) (with_serials serial new)
numbered_own port serial at [] one few = tt
numbered_own port serial at (m ∷ ms) one few = (
  named_at port serial at (one, omega (arith, few)),
  numbered_own port (suc serial) at ms (omega arith) (omega (arith, few)),
)

-- the node with new objects, as long as its serials are small
pub made : (new : List Made) (n : Node) → AllByRecursion (λ m. AllName is_nameable m.slots) new →
    IsNamed n → IsSmall (with_objects new n) → IsNamed (with_objects new n)
made new n h k small = record {
  home = k.home;
  first = omega (arith, k.first);
  own = each_joined (λ x. is_nameable (object_at n.port x.serial) ≡ true) n.heap
      (with_serials n.next_serial new) k.own
      (numbered_own n.port n.next_serial k.home new k.first small);
  slots = each_joined (λ x. AllName is_nameable x.slots) n.heap (with_serials n.next_serial new)
      k.slots (numbered is_nameable n.next_serial new h);
  calls = k.calls;
  roots = k.roots;
}

-- a node as it opens
pub opens : (table : List Class) (ports : List ℕ) (seat : Seat) → IsPort seat.node →
    IsNamed (opening_node table ports seat)
opens table ports seat at =
    let one = named_at seat.node 1 at (omega arith, omega arith) in
    record {
      home = at;
      first = omega arith;
      own = (one, tt);
      slots = (blank_within is_nameable table seat.root, tt);
      calls = tt;
      roots = one;
    }

-- ---- what follows each step

module _ (entry : ℕ → ℕ → Bool) (n : Node) (h : IsNamed n) where
  -- what a node leaves
  pub left : IsNamed (leaving entry n).node
  left = record {
    home = h.home;
    first = h.first;
    own = of_part (λ x. is_nameable (object_at n.port x.serial) ≡ true) (kept entry n) n.heap
        (are_kept entry n).part h.own;
    slots = of_part (λ x. AllName is_nameable x.slots) (kept entry n) n.heap (are_kept entry n).part
        h.slots;
    calls = h.calls;
    roots = h.roots;
  }

  -- objects that are freed
  frees : (xs : List Stored) →
      AllByRecursion (λ x. is_nameable (object_at n.port x.serial) ≡ true) xs →
      AllByRecursion IsShown (map (λ x. shown.Free (own n x.serial)) xs)
  frees [] k = tt
  frees (x ∷ xs) k = (object_stands (own n x.serial) k.0, frees xs k.1)

  -- what it shows of this may stand in a record
  pub left_shows : AllByRecursion IsShown (leaving entry n).shown
  left_shows =
      let gone = filter (λ x. not (list_any (λ y. y.serial == x.serial) (kept entry n))) n.heap in
      each_joined IsShown (map (λ x. shown.Free (own n x.serial)) gone) []
      (frees gone (each_filtered (λ x. is_nameable (object_at n.port x.serial) ≡ true)
      (λ x. not (list_any (λ y. y.serial == x.serial) (kept entry n))) n.heap h.own)) tt
