-- The items of a tree, and what each node knows of its size.
use Rattle.std.specs.Prelude.{◌≡◌, ◌+◌, List, [], ◌∷◌, ◌++◌, length}
use Rattle.do_sorted.specs.declared.tree.Node.{Node, TheVariants.{Leaf, Fork}}

-- the items in order
abbrev pub items_of : {T : Type 0} → Node T → List T
items_of Leaf = []
items_of (Fork before item n behind) = before.value ++ item ∷ behind.value

-- a node stores how many items it has
abbrev pub IsCounted : {T : Type 0} → Node T → Type 0
IsCounted Leaf = Unit {0}
IsCounted (Fork before item n behind) = n ≡ length before.value + length behind.value + 1
