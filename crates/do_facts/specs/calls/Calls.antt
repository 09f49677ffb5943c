-- Which calls a node waits for and serves, and what items say of calls.
use Rattle.do_behave.specs.declared.invocation.InvState.TheVariants as states
use Rattle.do_machine.specs.declared.item.Item.TheVariants as items
use Rattle.std.specs.Prelude.{Bool, List, [], map, ℕ, ◌∷◌}
use Rattle.do_behave.specs.declared.invocation.{Invocation.Invocation, InvState.InvState}
use Rattle.do_behave.specs.declared.invocation.Reason.{Reason}
use Rattle.do_machine.specs.declared.{item.Item.Item, node.{LateCall.LateCall, Node.Node}}
use Rattle.do_machine.specs.take.Awaiting.{is_for_root}
use Rattle.do_facts.specs.View.{View}

-- what an invocation waits for: nothing, the one above it, or a call of a peer, which is for a root
-- or not
pub data Wait : Type 0 where
  -- it waits for nothing
  Idle : Wait
  -- it waits for the invocation above it
  Lower : Wait
  -- it waits for the answer of a call, which is for a root or not
  On : (peer : ℕ) → (number : ℕ) → (root : Bool) → Wait

-- why an invocation was begun, and what it waits for
pub record Frame : Type 0 where
  pub reason : Reason
  pub wait : Wait

-- the ends of a node that are open, its invocations from the top on, its late calls and the next
-- number of a call
pub record Calls : Type 0 where
  pub open_to : List ℕ
  pub stack : List Frame
  pub late : List LateCall
  pub next : ℕ

-- what one item says of a call: it is made, or answered, or for a root, or answered with a root
pub data Atom : Type 0 where
  -- a call is made
  Called : (number : ℕ) → Atom
  -- a call is answered
  Answer : (number : ℕ) → Atom
  -- a root is asked for
  RootAsk : (number : ℕ) → Atom
  -- a root is given
  RootAnswer : (number : ℕ) → Atom

-- what an invocation of a state waits for
abbrev pub wait_of : InvState → Wait
wait_of states.Running = Idle
wait_of states.Below = Lower
wait_of (states.Waits call peer what) = On peer call.number (is_for_root what)
wait_of (states.Answered a) = Idle

-- an invocation as a frame
abbrev pub frame_of : Invocation → Frame
frame_of i = record { reason = i.reason; wait = wait_of i.state }

-- the calls of a node
abbrev pub calls_of : Node → Calls
calls_of n = record {
  open_to = n.open_to;
  stack = map frame_of n.stack;
  late = n.late;
  next = n.next_call;
}

-- a port without a node has no calls
abbrev pub no_calls : Calls
no_calls = record { open_to = []; stack = []; late = []; next = 0 }

-- the atoms of an item
abbrev pub atoms : Item → List Atom
atoms (items.Call number m) = Called number ∷ []
atoms (items.Reply number packet) = Answer number ∷ []
atoms (items.Raised number e) = Answer number ∷ []
atoms (items.RootAsk number) = RootAsk number ∷ []
atoms (items.RootAnswer number packet) = RootAnswer number ∷ []
atoms _ = []

-- states, seen by the calls of nodes
abbrev pub calls : View Calls Atom
calls = record { part = calls_of; absent = no_calls; atoms = atoms }
