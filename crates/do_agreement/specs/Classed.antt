-- What a state tells of the classes of objects.
use Rattle.std.specs.{Prelude.{List, Some, is_some, true, ℕ, ◌≡◌}, List.AllByRecursion}
use Rattle.do_base.specs.names.Names.{ObjectName}
use Rattle.do_machine.specs.declared.{item.Item.Item, node.Node.Node, state.State.State}
use Rattle.do_machine.specs.State.{class_of, is_known, node, queue}
use Rattle.do_network.specs.Counting.{item_classes}

-- Each object that a node knows has a class, and each name on its way tells the class of its object
pub record ClassesAreTold (S : State) : Type 0 where
  pub known : (port : ℕ) (n : Node) → node S port ≡ Some n → (o : ObjectName) →
      is_known n o ≡ true → is_some (class_of S o) ≡ true
  pub told : (from to : ℕ) (items : List Item) → queue S from to ≡ Some items →
      AllByRecursion (λ item. AllByRecursion (λ x. class_of S x.object ≡ Some x.class)
      (item_classes from item)) items
