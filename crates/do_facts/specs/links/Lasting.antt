-- How long a lend lasts.
use Rattle.do_base.specs.declared.events.event.Event.TheVariants as events
use Rattle.do_machine.specs.declared.item.Item.TheVariants as items
use Rattle.std.specs.Prelude.{List, Some, false, true, ℕ, ◌∷◌, ◌≡◌}
use Rattle.do_base.specs.declared.events.event.Event.{Event}
use Rattle.do_machine.specs.declared.{item.Item.Item, node.{Lend.Lend, Node.Node}}
use Rattle.do_machine.specs.{declared.state.State.State, Lists.IsIn, State.{is_open, queue}}

-- by the event the node of a port takes the borrower's notice that a lend is over
pub record TakesNotice (S : State) (event : Event) (port : ℕ) (l : Lend) : Type 0 where
  pub behind : List Item
  pub takes : event ≡ events.Take port l.borrower
  pub oldest : queue S l.borrower port ≡ Some (items.Settled l.number ∷ behind)

-- What becomes of a lend of the node of a port by an event, which makes another of it: the lend
-- stays, or the end towards the borrower was open and is closed, or the borrower's notice is taken
pub data Lasts (S : State) (event : Event) (port : ℕ) (n m : Node) (l : Lend) : Type 0 where
  -- the lend stays
  Stays : IsIn m.lent l → Lasts S event port n m l
  -- the end towards the borrower was open, and is closed
  Parts : is_open n l.borrower ≡ true → is_open m l.borrower ≡ false → Lasts S event port n m l
  -- the borrower's notice is taken
  Ends : TakesNotice S event port l → Lasts S event port n m l
