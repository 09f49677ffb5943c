-- What is named was made, and what is in use is stored.
use Rattle.std.specs.Prelude.{All, Bool, List, Some, is_some, nat_lt, true, ℕ, ◌≡◌}
use Rattle.do_base.specs.names.Names.{ObjectName}
use Rattle.do_machine.specs.declared.{item.Item.Item, node.Node.Node, state.State.State}
use Rattle.do_machine.specs.{Entry.has_entry, Items.names, Lists.some_passes}
use Rattle.do_machine.specs.State.{node, queue, stored}

-- the object's home gave its serial
abbrev pub was_made : State → ObjectName → Bool
was_made S o = some_passes (λ n. nat_lt o.serial n.next_serial) (node S o.node)

-- each object that a node holds, lends or asks for was made, and each that an item on its way names
pub record NamedAreMade (S : State) : Type 0 where
  pub held : (port : ℕ) (n : Node) → node S port ≡ Some n →
      All (λ o. was_made S o ≡ true) n.held
  pub lent : (port : ℕ) (n : Node) → node S port ≡ Some n →
      All (λ l. was_made S l.object ≡ true) n.lent
  pub asked : (port : ℕ) (n : Node) → node S port ≡ Some n →
      All (λ w. was_made S w.object ≡ true) n.asked
  pub waiting : (from to : ℕ) (items : List Item) → queue S from to ≡ Some items →
      All (λ item. All (λ x. was_made S x.object ≡ true) (names from to item)) items

-- an object is stored at its home
abbrev pub is_stored : State → ObjectName → Bool
is_stored S o = some_passes (λ n. is_some (stored o.serial n.heap)) (node S o.node)

-- each object of which a peer has an entry is stored
pub record EnteredAreStored (S : State) : Type 0 where
  pub each : (peer : ℕ) (o : ObjectName) → has_entry S peer o ≡ true → is_stored S o ≡ true
