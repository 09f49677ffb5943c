-- What a time-out leaves of a call.
use Rattle.std.specs.{Prelude.{List, Some, true, ℕ, ◌∷◌, ◌≡◌}, List.list_any}
use Rattle.do_base.specs.{declared.events.exception.Exc.TheVariants.TimedOut, names.Names.CallName}
use Rattle.do_behave.specs.declared.invocation.{Answer.TheVariants.Raised, Invocation.Invocation}
use Rattle.do_behave.specs.declared.invocation.{InvState.TheVariants.Waits, Waited.Waited}
use Rattle.do_machine.specs.{declared.{node.Node.Node, state.State.State}, State.node}
use Rattle.do_facts.specs.laws.Calls.{answered_call}
use Rattle.do_machine.specs.{run.Changes.answered, take.Awaiting.is_answered}

-- the top invocation of a node waits for a call
pub record WaitsOnTop (n : Node) (i : Invocation) (below : List Invocation) (call : CallName)
    (peer : ℕ) (what : Waited) : Type 0 where
  pub stack : n.stack ≡ i ∷ below
  pub waits : i.state ≡ Waits call peer what

-- the node of a port has the invocation answered by an exception, and the call among the late ones
pub record HasGivenUp (T : State) (port : ℕ) (i : Invocation) (below : List Invocation)
    (call : CallName) (peer : ℕ) (what : Waited) : Type 0 where
  pub after : Node
  pub here : node T port ≡ Some after
  pub stack : after.stack ≡ answered (Raised TimedOut) i ∷ below
  pub late : list_any (λ c. is_answered (answered_call call peer what) c.peer c.number c.what)
      after.late ≡ true

-- the top invocation of the node of a port waits for some call
abbrev pub CanGiveUp : State → ℕ → Type 0
CanGiveUp S port =
    (n : Node) × (i : Invocation) × (below : List Invocation) × (call : CallName) × (peer : ℕ)
    × (what : Waited) × (node S port ≡ Some n) × WaitsOnTop n i below call peer what
