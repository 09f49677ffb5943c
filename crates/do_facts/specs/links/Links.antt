-- What a node has of foreign objects, and what items say of them.
use Rattle.do_class.specs.declared.packet.Name.TheVariants as names
use Rattle.do_machine.specs.declared.item.Item.TheVariants as items
use Rattle.std.specs.{Prelude.{List, [], ℕ, ◌∷◌}, List.flat_map}
use Rattle.do_base.specs.names.Names.{ObjectName, TokenName}
use Rattle.do_class.specs.declared.packet.{Name.Name, Packet.Packet}
use Rattle.do_machine.specs.declared.{item.Item.Item, node.{Lend.Lend, Node.Node, Stored.Stored}}
use Rattle.do_machine.specs.declared.node.Wanted.{Wanted}
use Rattle.do_facts.specs.View.{View}

-- the ends of a node that are open, what it holds, lends and asks for, its next token, what it
-- stores, and its next serial
pub record Links : Type 0 where
  pub open_to : List ℕ
  pub held : List ObjectName
  pub lent : List Lend
  pub asked : List Wanted
  pub token : ℕ
  pub heap : List Stored
  pub serial : ℕ

-- what one item says of one object. A serial is of an object of the sender in a name, a grant and a
-- refusal, of the receiver in a mention, an ask, a release and an end
pub data Atom : Type 0 where
  -- an own object of the sender is named
  Mine : (serial : ℕ) → Atom
  -- an object of the receiver is named
  Yours : (serial : ℕ) → Atom
  -- an object of a third node is lent
  Lent : (object : ObjectName) → (token : ℕ) → Atom
  -- a lent object is asked for
  Ask : (serial : ℕ) → (token : TokenName) → Atom
  -- an ask is granted
  Granted : (serial : ℕ) → (token : TokenName) → Atom
  -- an ask is refused
  Gone : (serial : ℕ) → (token : TokenName) → Atom
  -- a lend is over
  Settled : (number : ℕ) → Atom
  -- an object is released
  Left : (serial : ℕ) → Atom
  -- the end is closed, and these objects are released
  End : (serials : List ℕ) → Atom

-- that part of a node
abbrev pub links_of : Node → Links
links_of n = record {
  open_to = n.open_to;
  held = n.held;
  lent = n.lent;
  asked = n.asked;
  token = n.next_token;
  heap = n.heap;
  serial = n.next_serial;
}

-- a port without a node has nothing
abbrev pub no_links : Links
no_links = record {
  open_to = [];
  held = [];
  lent = [];
  asked = [];
  token = 0;
  heap = [];
  serial = 0;
}

-- the atoms of a name
abbrev pub name_atoms : Name → List Atom
name_atoms (names.Mine serial class) = Mine serial ∷ []
name_atoms (names.Yours serial) = Yours serial ∷ []
name_atoms (names.Lent o class token) = Lent o token ∷ []

-- the atoms of a message
abbrev pub packet_atoms : Packet → List Atom
packet_atoms packet = flat_map name_atoms packet.names

-- the atoms of an item
abbrev pub atoms : Item → List Atom
atoms (items.Call number m) = Yours m.target ∷ packet_atoms m.packet
atoms (items.Oneway m) = Yours m.target ∷ packet_atoms m.packet
atoms (items.Reply number packet) = packet_atoms packet
atoms (items.RootAnswer number packet) = packet_atoms packet
atoms (items.Ask serial token) = Ask serial token ∷ []
atoms (items.Granted serial token) = Granted serial token ∷ []
atoms (items.Gone serial token) = Gone serial token ∷ []
atoms (items.Left serial) = Left serial ∷ []
atoms (items.Settled number) = Settled number ∷ []
atoms (items.End serials) = End serials ∷ []
atoms _ = []

-- states, seen by what nodes have of foreign objects
abbrev pub links : View Links Atom
links = record { part = links_of; absent = no_links; atoms = atoms }
