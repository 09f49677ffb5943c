-- Which own objects a node keeps.
use Rattle.std.specs.Prelude.{Bool, List, false, filter, length, suc, true, zero, ℕ, ◌==◌, ◌||◌}
use Rattle.std.specs.{Prelude.◌≡◌, List.list_any}
use Rattle.do_packet.specs.Met.{has_object}
use Rattle.do_machine.specs.{declared.node.{Node.Node, Stored.Stored}, Lists.{IsIn, some_passes}}
use Rattle.do_machine.specs.{State.own, held.Refers.{heap_objects, stack_objects}}

-- an own object is the root
abbrev pub is_root : Node → ℕ → Bool
is_root n serial = some_passes (λ r. r == serial) n.root

-- what holds an own object up beside slots: the root, an invocation, an entry of a peer
abbrev pub is_held_up : (ℕ → ℕ → Bool) → Node → ℕ → Bool
is_held_up entry n serial =
    is_root n serial
    || has_object (stack_objects n.stack) (own n serial)
    || list_any (λ peer. entry peer serial) n.open_to

-- an object that is held up so, or that a slot of one of these objects names
abbrev pub stays : (ℕ → ℕ → Bool) → Node → List Stored → Stored → Bool
stays entry n heap x =
    is_held_up entry n x.serial || has_object (heap_objects heap) (own n x.serial)

-- what is left of a heap once each object that is not held up is struck
abbrev pub struck : (ℕ → ℕ → Bool) → Node → List Stored → List Stored
struck entry n heap = filter (stays entry n heap) heap

-- each of these objects is held up so
pub record HoldsItself (entry : ℕ → ℕ → Bool) (n : Node) (heap : List Stored) : Type 0 where
  pub stay : (x : Stored) → IsIn heap x → stays entry n heap x ≡ true

-- all of these objects are among those
pub record AreAmong (few many : List Stored) : Type 0 where
  pub stand : (x : Stored) → IsIn few x → IsIn many x

-- The objects that a node keeps: stored ones that hold themselves up, and all others that do so
pub record AreKept (entry : ℕ → ℕ → Bool) (n : Node) (heap : List Stored) : Type 0 where
  pub part : AreAmong heap n.heap
  pub held_up : HoldsItself entry n heap
  pub greatest : (these : List Stored) → AreAmong these n.heap → HoldsItself entry n these →
      AreAmong these heap

-- rounds of striking, up to the first that strikes nothing
abbrev pub struck_by : ℕ → (ℕ → ℕ → Bool) → Node → List Stored → List Stored
struck_by zero entry n heap = heap
struck_by (suc rounds) entry n heap =
    let fewer = struck entry n heap in
    elim (length fewer == length heap) [ true ↦ heap | false ↦ struck_by rounds entry n fewer ]

-- the objects that are kept, computed: each round but the last strikes one
abbrev pub kept : (ℕ → ℕ → Bool) → Node → List Stored
kept entry n = struck_by (length n.heap) entry n n.heap
