-- The mesh world: four peers, each of which can make an item, and send it to another by its name
-- and as a copy.
use Rattle.do_sig.specs.declared.qualifiers.Direction.TheVariants as ways
use Rattle.do_sig.specs.declared.qualifiers.Passing.TheVariants as passings
use Rattle.do_script.specs.declared.instruction.Instruction.TheVariants as does
use Rattle.std.specs.Prelude.{ℕ, List, [], ◌∷◌, ◌++◌, codes, false, true, None}
use Rattle.do_sig.specs.Bare.{simple_method, void_encoding}
use Rattle.do_sig.specs.declared.signature.Signature.{Signature}
use Rattle.do_sig.specs.declared.value_type.Scalar.TheVariants.{Object, UnsignedShort}
use Rattle.do_sig.specs.declared.value_type.ValueType.TheVariants.{Simple}
use Rattle.do_sig.specs.declared.value_type.OutermostType.TheVariants.{Plain}
use Rattle.do_class.specs.Class.{Class}
use Rattle.do_check.specs.declared.rules.Rule.{Rule}
use Rattle.do_class_kinds.specs.declared.kind.Kind.{Kind, TheVariants.Script}
use Rattle.do_script.specs.{Listing.Listing, declared.instruction.Instruction.Instruction}
use Rattle.do_machine.specs.declared.state.Seat.{Seat}
use Rattle.do_world.specs.declared.world.World.{World}

-- takes a port and gives nothing
abbrev pub takes_port : Signature
takes_port = simple_method None (UnsignedShort ∷ [])

-- takes a value and gives nothing
abbrev pub takes_value : Signature
takes_value = simple_method None (Object ∷ [])

-- takes a copy of a value and gives nothing
abbrev pub takes_copy : Signature
takes_copy = record {
  returned = void_encoding;
  args = record {
    qualifiers = record {
      oneway = false;
      constant = false;
      direction = ways.Unmarked;
      passing = passings.ByCopy;
    };
    value_type = Plain (Simple Object);
  } ∷ [];
}

-- an item has a slot that is copied with it, and no method; a peer has two slots, and methods that
-- begin, and that take an item by its name, again by its name, and as a copy
abbrev pub mesh_classes : List Class
mesh_classes =
    record {
      name = codes "Item";
      slots = record { name = codes "link"; copy = true } ∷ [];
      methods = [];
    } ∷ record {
      name = codes "Peer";
      slots = record { name = codes "a"; copy = false }
          ∷ record { name = codes "b"; copy = false } ∷ [];
      methods = record { selector = codes "go:"; signature = takes_port }
          ∷ record { selector = codes "hold:"; signature = takes_value }
          ∷ record { selector = codes "pass:"; signature = takes_value }
          ∷ record { selector = codes "copy:"; signature = takes_copy } ∷ [];
    } ∷ []

-- each of four nodes has a peer as its root
abbrev pub mesh_nodes : List Seat
mesh_nodes = record { node = 7001; root = record { 0 = 1 } }
    ∷ record { node = 7002; root = record { 0 = 1 } }
    ∷ record { node = 7003; root = record { 0 = 1 } }
    ∷ record { node = 7004; root = record { 0 = 1 } } ∷ []

-- a peer's code
abbrev pub peer_code : List Instruction → Listing
peer_code instructions = record { instructions = instructions; slots = 2; classes = 2 }

-- `go:` of a peer asks for the root of a port, keeps a new item in `a`, and sends it to that root;
-- then it sends what is in `b`, and a copy of the item
abbrev pub begin_code : Listing
begin_code = peer_code
    (does.Root 1 0 ∷ does.New 2 0 ∷ does.Set 0 2 ∷ does.Send 3 1 (codes "hold:") (2 ∷ [])
    ∷ does.Get 4 1 ∷ does.Send 3 1 (codes "pass:") (4 ∷ [])
    ∷ does.Send 3 1 (codes "copy:") (2 ∷ []) ∷ [])

-- the codes of both classes: `hold:` puts its value into `b`, `pass:` into `a`, and `copy:` nowhere
abbrev pub mesh_codes : List (List Listing)
mesh_codes = []
    ∷ (begin_code ∷ peer_code (does.Set 1 0 ∷ []) ∷ peer_code (does.Set 0 0 ∷ [])
    ∷ peer_code [] ∷ []) ∷ []

-- both classes are of scripts
abbrev pub mesh_kinds : List Kind
mesh_kinds = Script ∷ Script ∷ []

-- so neither has rules
abbrev pub mesh_rules : List (List Rule)
mesh_rules = [] ∷ [] ∷ []

-- the whole world
abbrev pub mesh_world : World
mesh_world = record {
  table = mesh_classes;
  kinds = mesh_kinds;
  rules = mesh_rules;
  program = mesh_codes;
  nodes = mesh_nodes;
}

-- the text that says it
unfoldable pub mesh_text : List ℕ
mesh_text =
    codes "version = 1\n\n[[class]]\nname = 'Item'\nslots = ['link copy']\n\n"
    ++ codes "[[class]]\nname = 'Peer'\nslots = ['a', 'b']\n\n"
    ++ codes "[[class.method]]\nselector = 'go:'\ntypes = 'v@:S'\ncode = '''\n"
    ++ codes "root l1 l0\nnew l2 Item\nset a l2\nsend l3 l1 hold: l2\n"
    ++ codes "get l4 b\nsend l3 l1 pass: l4\nsend l3 l1 copy: l2\n'''\n\n"
    ++ codes "[[class.method]]\nselector = 'hold:'\ntypes = 'v@:@'\ncode = 'set b l0'\n\n"
    ++ codes "[[class.method]]\nselector = 'pass:'\ntypes = 'v@:@'\ncode = 'set a l0'\n\n"
    ++ codes "[[class.method]]\nselector = 'copy:'\ntypes = 'v@:O@'\n\n"
    ++ codes "[[node]]\nport = 7001\nroot = 'Peer'\n\n[[node]]\nport = 7002\nroot = 'Peer'\n\n"
    ++ codes "[[node]]\nport = 7003\nroot = 'Peer'\n\n[[node]]\nport = 7004\nroot = 'Peer'\n"
