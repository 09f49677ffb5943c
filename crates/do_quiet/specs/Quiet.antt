-- States in which all ends are open and nothing is on its way.
use Rattle.do_base.specs.declared.events.event.Event.TheVariants as events
use Rattle.do_machine.specs.declared.item.Item.TheVariants as items
use Rattle.std.specs.{Prelude.{All, Bool, List, Some, [], false, true, ℕ, ◌==◌, ◌≡◌}, List.list_any}
use Rattle.do_base.specs.declared.events.event.Event.{Event}
use Rattle.do_machine.specs.declared.{item.Item.Item, node.Node.Node, state.State.State}
use Rattle.do_machine.specs.State.{is_known, is_open, node, queue}
use Rattle.do_facts.specs.Made.{is_stored}

-- each node's end towards each other node is open
pub record AllEndsOpen (S : State) : Type 0 where
  pub reach : (port peer : ℕ) (n m : Node) → node S port ≡ Some n → node S peer ≡ Some m →
      (peer == port) ≡ false → is_open n peer ≡ true

-- each queue is empty
pub record NothingWaits (S : State) : Type 0 where
  pub empty : (from to : ℕ) (items : List Item) → queue S from to ≡ Some items → items ≡ []

-- each node holds or asks for each object that it lends
pub record LentAreKept (S : State) : Type 0 where
  pub each : (port : ℕ) (n : Node) → node S port ≡ Some n →
      All (λ l. is_known n l.object ≡ true) n.lent

-- the item refuses an ask
abbrev pub is_gone : Item → Bool
is_gone (items.Gone serial token) = true
is_gone _ = false

-- each object that a node asks for is stored at its home, and no item refuses an ask
pub record AsksAreGranted (S : State) : Type 0 where
  pub stored : (port : ℕ) (n : Node) → node S port ≡ Some n →
      All (λ w. is_stored S w.object ≡ true) n.asked
  pub refused : (from to : ℕ) (waiting : List Item) → queue S from to ≡ Some waiting →
      list_any is_gone waiting ≡ false

-- no node lends an object, and none asks for one
pub record NothingLent (S : State) : Type 0 where
  pub lent : (port : ℕ) (n : Node) → node S port ≡ Some n → n.lent ≡ []
  pub asked : (port : ℕ) (n : Node) → node S port ≡ Some n → n.asked ≡ []

-- the event closes nothing and loses nothing
abbrev pub IsNoBreak : Event → Type 0
IsNoBreak (events.Close port peer) = ⊥
IsNoBreak (events.Lose from to after) = ⊥
IsNoBreak _ = Unit {0}
