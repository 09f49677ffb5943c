-- How far inputs lead one node, whatever its peers send.
use Rattle.std.specs.Prelude.{List, Some, [], ℕ, ◌+◌, ◌∷◌, ◌≡◌, ◌≤◌}
use Rattle.do_base.specs.names.Names.{ObjectName}
use Rattle.do_grammar.specs.Grammar.{IsBytes}
use Rattle.do_class.specs.{Class.Class, declared.ids.ClassId.ClassId}
use Rattle.do_sched.specs.Good.{IsPort}
use Rattle.do_machine.specs.run.Run.{Acting}
use Rattle.do_network.specs.{Frames.item_of, Links.{Framed, Greeting, Part, Piece, Sending}}
use Rattle.do_network.specs.{Own.{Own, class_kept}, Site.site_step, declared.input.Input.Input}
use Rattle.do_network.specs.declared.input.Input.TheVariants.{Frame, Run, Start}
use Rattle.do_limits.specs.Sendable.{AreSendable, IsOfTable}
use Rattle.do_limits.specs.SendableStates.{ItemIsSendable, NodeIsSendable}

-- an input that may come to a node: a message can carry the values of a start, and a frame is of
-- any bytes, and comes from a peer with a port
abbrev pub MayCome : Input → Type 0
MayCome (Start selector values) = AreSendable values
MayCome (Frame from f) = IsPort from × IsBytes f.payload
MayCome _ = Unit {0}

-- 1 for an input by which a node may make calls, objects and lends
abbrev pub may_make : Input → ℕ
may_make Run = 1
may_make (Frame from f) = 1
may_make _ = 0

-- how many of inputs are such
abbrev pub makers : List Input → ℕ
makers [] = 0
makers (i ∷ is) = may_make i + makers is

-- the site to which inputs lead, one after another
abbrev pub site_after : List Class → Acting → Part → List Input → Part
site_after table act p [] = p
site_after table act p (i ∷ is) = site_after table act (site_step table act p i).part is

-- a class of the table, of an object with a serial at a port
abbrev pub ClassStands : List Class → ObjectName → ClassId → Type 0
ClassStands table o class = IsOfTable table class × ((1 ≤ o.serial) × IsPort o.node)

-- A message can carry what the node of this port has, and the classes that it keeps of foreign
-- objects are of the table
pub record IsWithin (table : List Class) (port : ℕ) (p : Own) : Type 0 where
  pub values : NodeIsSendable table port p.node
  pub classes : (o : ObjectName) (class : ClassId) → class_kept p o ≡ Some class →
      ClassStands table o class

-- what goes to a peer is the greeting, or a frame of an item that keeps the limits of messages
abbrev pub PieceIsWithin : List Class → ℕ → ℕ → Piece → Type 0
PieceIsWithin table from to Greeting = Unit {0}
PieceIsWithin table from to (Framed f spelled) = ItemIsSendable table from to (item_of f)

-- so it is with what a port sends
abbrev pub SendsWithin : List Class → ℕ → Sending → Type 0
SendsWithin table port s = PieceIsWithin table port s.to s.piece
