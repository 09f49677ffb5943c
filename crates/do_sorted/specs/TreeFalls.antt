-- Each side of a node has fewer items than the node.
use Rattle.std.{specs.Prelude.{◌≤◌, max, ◌∷◌, length}, proofs.Common.{arith, length-append}}
use Rattle.do_sorted.specs.declared.tree.Node.{Node, TheVariants.{Leaf, Fork}}
use Rattle.do_sorted.specs.{declared.tree.Tree.TheDeep.deep-Node, Tree.items_of}

-- no side is deeper than the node has items
pub depth_le-length-items : {T : Type 0} (n : Node T) → max (deep-Node T n) 0 ≤ length (items_of n)
depth_le-length-items Leaf = omega arith
depth_le-length-items (Fork before item n behind) =
    omega (arith, length-append before.value (item ∷ behind.value))
