-- What the end of a peer takes from a node's links, in two steps.
use Rattle.std.specs.Prelude.{ℕ, filter, not, ◌==◌}
use Rattle.do_machine.specs.declared.node.Node.{Node}

-- the node without its asks of a peer's objects
abbrev pub without_asks : ℕ → Node → Node
without_asks peer n = record n { asked = filter (λ w. not (w.object.node == peer)) n.asked }

-- the node without the objects that it holds of a peer, and without its lends to it
abbrev pub without_links : ℕ → Node → Node
without_links peer n = record n {
  held = filter (λ o. not (o.node == peer)) n.held;
  lent = filter (λ l. not (l.borrower == peer)) n.lent;
}
