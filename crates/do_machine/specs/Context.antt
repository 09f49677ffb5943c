-- What the rules judge a step of a node by.
use Rattle.std.specs.Prelude.{Bool, List, None, Option, if◌then◌else◌, option_and_then, option_map}
use Rattle.std.specs.Prelude.{ℕ}
use Rattle.do_base.specs.names.Names.{ObjectName}
use Rattle.do_class.specs.{Class.Class, Table.{find_method, signature_of}}
use Rattle.do_class.specs.declared.ids.{ClassId.ClassId, MethodId.MethodId}
use Rattle.do_sig.specs.declared.signature.Signature.{Signature}
use Rattle.do_behave.specs.declared.invocation.Invocation.{Invocation}
use Rattle.do_machine.specs.{declared.{node.Node.Node, state.State.State}, Entry.has_entry}
use Rattle.do_machine.specs.State.{class_of, is_known, is_own, own, stored}

-- what a node knows of the rest of the machine
pub record Surroundings : Type 0 where
  -- the class of a foreign object that the node may use
  pub class_of : ObjectName → Option ClassId
  -- whether a peer has an entry of the own object of a serial
  pub entry : ℕ → ℕ → Bool

-- what a step is judged by
pub record Context : Type 0 where
  pub table : List Class
  pub around : Surroundings
  pub node : Node

-- what a node knows of the rest of a state
abbrev pub around : State → Node → Surroundings
around S n = record {
  class_of = λ o. if is_known n o then class_of S o else None;
  entry = λ peer serial. has_entry S peer (own n serial);
}

-- a node in a state
abbrev pub context : List Class → State → Node → Context
context table S n = record { table = table; around = around S n; node = n }

-- what a run is judged by: the invocation on top of the node's stack, and those below it
pub record RunContext : Type 0 where
  pub context : Context
  pub top : Invocation
  pub below : List Invocation

-- a method with its signature
pub record Found : Type 0 where
  pub id : MethodId
  pub signature : Signature

-- a method of the table, with its signature
abbrev method_of : List Class → MethodId → Option Found
method_of table id = option_map (λ s. record { id = id; signature = s }) (signature_of table id)

-- the method that an object of a class has for a selector; one whose class is not known has none
abbrev pub method_for : List Class → Option ClassId → List ℕ → Option Found
method_for table class selector =
    option_and_then (method_of table) (option_and_then (λ c. find_method table c selector) class)

-- the class of an own object
abbrev pub own_class : Node → ℕ → Option ClassId
own_class n serial = option_map (λ x. x.class) (stored serial n.heap)

-- the class of an object that the node may name
abbrev pub class_seen : Context → ObjectName → Option ClassId
class_seen c o = if is_own c.node o then own_class c.node o.serial else c.around.class_of o
