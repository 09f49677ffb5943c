-- Nodes, sites and networks of two, for examples.
use Rattle.do_behave.specs.declared.invocation.Reason.TheVariants as reasons
use Rattle.do_behave.specs.declared.invocation.Waited.TheVariants as waiteds
use Rattle.std.{proofs.Common.{ℕ, List, [], ◌∷◌, map}, specs.Prelude.{None, replicate}}
use Rattle.do_base.specs.names.Names.{CallName, ObjectName, TokenName}
use Rattle.do_base.specs.declared.values.value.Value.TheVariants.{Nil}
use Rattle.do_class.specs.declared.{ids.MethodId.MethodId, packet.Packet.Packet}
use Rattle.do_behave.specs.declared.invocation.{Invocation.Invocation, InvState.InvState}
use Rattle.do_behave.specs.declared.invocation.InvState.TheVariants.{Waits}
use Rattle.do_machine.specs.declared.node.Node.{Node}
use Rattle.do_network.specs.Links.{Part}
use Rattle.do_network.specs.Net.{Carried, Channel, Net, opening_channel, opening_link, opening_own}

-- a node of a port with open ends to these peers
abbrev pub node_of : ℕ → List ℕ → Node
node_of port peers = record {
  port = port;
  heap = [];
  root = None;
  stack = [];
  next_serial = 1;
  next_call = 9;
  next_token = 9;
  open_to = peers;
  held = [];
  lent = [];
  asked = [];
  late = [];
}

-- its site, which has links to these peers and counts nothing
abbrev pub site_of : Node → List ℕ → Part
site_of n peers = record { own = opening_own n; links = map opening_link peers }

-- a call of 7001
abbrev pub call : ℕ → CallName
call number = record { node = 7001; number = number }

-- a method
abbrev pub method : MethodId
method = record { class = record { 0 = 0 }; index = 1 }

-- an invocation in a state
abbrev pub invocation : InvState → Invocation
invocation state = record {
  object = record { node = 7001; serial = 1 };
  method = method;
  pc = 3;
  locals = replicate 16 Nil;
  handler = None;
  reason = reasons.Start;
  into = 5;
  outs = [];
  state = state;
}

-- one that waits for the call of a method of this number to 7002
abbrev pub waiting : ℕ → Invocation
waiting number = invocation (Waits (call number) 7002 (waiteds.Method method))

-- an object of a home
abbrev pub object : ℕ → ℕ → ObjectName
object home serial = record { node = home; serial = serial }

-- a token of a lender
abbrev pub token : ℕ → ℕ → TokenName
token lender number = record { lender = lender; number = number }

-- a message with nothing in it
abbrev pub nothing : Packet
nothing = record { names = []; copies = []; values = [] }

-- a channel in which these stand
abbrev pub channel_with : ℕ → List Carried → Channel
channel_with to waiting = record (opening_channel to) { waiting = waiting }

-- two sites, of which the first has sent the second these
abbrev pub two_sites : Part → Part → List Carried → Net
two_sites p q waiting = record {
  places = record { port = 7001; part = p; channels = channel_with 7002 waiting ∷ [] }
      ∷ record { port = 7002; part = q; channels = opening_channel 7001 ∷ [] } ∷ [];
}
