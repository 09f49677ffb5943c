-- What the names that a node sends tell.
use Rattle.std.specs.{Prelude.{List, Some, ◌≡◌}, List.AllByRecursion}
use Rattle.do_machine.specs.{declared.state.Parcel.Parcel, Context.{Context, class_seen}}
use Rattle.do_network.specs.Counting.{Classed, item_classes}

-- a name tells the class that a node sees of the object
abbrev pub TellsSeen : Context → Classed → Type 0
TellsSeen c x = class_seen c x.object ≡ Some x.class

-- each name in these parcels of a node does
abbrev pub AreTold : Context → List Parcel → Type 0
AreTold c sent =
    AllByRecursion (λ p. AllByRecursion (TellsSeen c) (item_classes c.node.port p.item)) sent
