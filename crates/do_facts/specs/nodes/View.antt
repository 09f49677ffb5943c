-- The states of the machine as nodes, and as what items say.
use Rattle.std.specs.Prelude.{None, []}
use Rattle.do_machine.specs.declared.node.Node.{Node}
use Rattle.do_facts.specs.{View.View, nodes.Atoms.{Atom, atoms}}

-- a port without a node has nothing
abbrev pub no_node : Node
no_node = record {
  port = 0;
  heap = [];
  root = None;
  stack = [];
  next_serial = 0;
  next_call = 0;
  next_token = 0;
  open_to = [];
  held = [];
  lent = [];
  asked = [];
  late = [];
}

-- states, seen by their nodes and by what items say
abbrev pub nodes : View Node Atom
nodes = record { part = λ n. n; absent = no_node; atoms = atoms }
