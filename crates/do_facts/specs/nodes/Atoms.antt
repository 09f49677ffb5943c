-- What an item says, in parts that a node takes and posts one after another.
use Rattle.do_machine.specs.declared.item.Item.TheVariants as items
use Rattle.std.specs.Prelude.{List, [], map, ℕ, ◌++◌, ◌∷◌}
use Rattle.do_class.specs.declared.packet.{Name.Name, Packet.Packet}
use Rattle.do_machine.specs.declared.item.Item.{Item}

-- a part of an item. A message is its target, its copies and values, its names and then the item
pub data Atom : Type 0 where
  -- the message is for an object of the receiver
  Target : (serial : ℕ) → Atom
  -- these are its copies and values
  Body : (packet : Packet) → Atom
  -- it names an object
  Named : (name : Name) → Atom
  -- the item itself, of which no part is behind
  Whole : (item : Item) → Atom

-- the parts of a message
abbrev pub packet_atoms : Packet → List Atom
packet_atoms packet = Body packet ∷ map Named packet.names

-- the parts of an item
abbrev pub atoms : Item → List Atom
atoms (items.Call number m) =
    Target m.target ∷ packet_atoms m.packet ++ Whole (items.Call number m) ∷ []
atoms (items.Oneway m) = Target m.target ∷ packet_atoms m.packet ++ Whole (items.Oneway m) ∷ []
atoms (items.Reply number packet) =
    packet_atoms packet ++ Whole (items.Reply number packet) ∷ []
atoms (items.RootAnswer number packet) =
    packet_atoms packet ++ Whole (items.RootAnswer number packet) ∷ []
atoms item = Whole item ∷ []
