-- The counter world: a client that sends numbers to a counter, which adds them up.
use Rattle.do_script.specs.declared.instruction.Instruction.TheVariants as does
use Rattle.std.specs.Prelude.{ℕ, List, [], ◌∷◌, codes, false, pos}
use Rattle.do_sig.specs.{Bare.simple_encoding, declared.signature.Signature.Signature}
use Rattle.do_sig.specs.declared.value_type.Scalar.TheVariants.{LongLong}
use Rattle.do_class.specs.Class.{Class}
use Rattle.do_check.specs.declared.rules.Rule.{Rule}
use Rattle.do_class_kinds.specs.declared.kind.Kind.{Kind, TheVariants.Script}
use Rattle.do_script.specs.Listing.{Listing}
use Rattle.do_machine.specs.declared.state.Seat.{Seat}
use Rattle.do_world.specs.declared.world.World.{World}

-- takes a number and gives a number
abbrev pub number_to_number : Signature
number_to_number =
    record { returned = simple_encoding LongLong; args = simple_encoding LongLong ∷ [] }

-- a counter has a value, and `add:` takes and gives a number; a client has no slot, and `go:` takes
-- and gives a number
abbrev pub counter_classes : List Class
counter_classes =
    record {
      name = codes "Counter";
      slots = record { name = codes "value"; copy = false } ∷ [];
      methods = record { selector = codes "add:"; signature = number_to_number } ∷ [];
    } ∷ record {
      name = codes "Client";
      slots = [];
      methods = record { selector = codes "go:"; signature = number_to_number } ∷ [];
    } ∷ []

-- node 7001 has a client as its root, and 7002 a counter
abbrev pub counter_nodes : List Seat
counter_nodes = record { node = 7001; root = record { 0 = 1 } }
    ∷ record { node = 7002; root = record { 0 = 0 } } ∷ []

-- the names that a code can use for the classes
abbrev pub class_names : List (List ℕ)
class_names = codes "Counter" ∷ codes "Client" ∷ []

-- `add:` of a counter adds its number to the value, and returns the sum
abbrev pub add_code : Listing
add_code = record {
  instructions = does.Get 1 0 ∷ does.Add 1 1 0 ∷ does.Set 0 1 ∷ does.Return 1 ∷ [];
  slots = 1;
  classes = 2;
}

-- `go:` of a client asks for the root of 7002, sends it `add:` with its number, shows the answer
-- and returns it
abbrev pub go_code : Listing
go_code = record {
  instructions = does.Number 1 (pos 7002) ∷ does.Root 2 1 ∷ does.Send 3 2 (codes "add:") (0 ∷ [])
      ∷ does.Say 3 ∷ does.Return 3 ∷ [];
  slots = 0;
  classes = 2;
}

-- the codes of both classes
abbrev pub counter_codes : List (List Listing)
counter_codes = (add_code ∷ []) ∷ (go_code ∷ []) ∷ []

-- both classes are of scripts
abbrev pub counter_kinds : List Kind
counter_kinds = Script ∷ Script ∷ []

-- so neither has rules
abbrev pub counter_rules : List (List Rule)
counter_rules = [] ∷ [] ∷ []

-- the whole world
abbrev pub counter_world : World
counter_world =
    record {
      table = counter_classes;
      kinds = counter_kinds;
      rules = counter_rules;
      program = counter_codes;
      nodes = counter_nodes;
    }
