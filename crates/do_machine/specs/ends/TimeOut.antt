-- How a call is given up.
use Rattle.std.specs.Prelude.{Bool, List, None, Option, Some, [], nat_lt, ◌∷◌}
use Rattle.do_base.specs.declared.events.exception.Exc.TheVariants.{TimedOut}
use Rattle.do_behave.specs.declared.invocation.{Invocation.Invocation, InvState.InvState}
use Rattle.do_behave.specs.declared.invocation.Answer.TheVariants.{Raised}
use Rattle.do_behave.specs.declared.invocation.InvState.TheVariants.{Waits}
use Rattle.do_machine.specs.declared.{node.{Node.Node, LateCall.LateCall}, state.Effect.Effect}
use Rattle.do_machine.specs.{Effect.only, Lists.inserted, run.{Changes.answered, Fresh.with_stack}}

-- late calls stand by rising number
abbrev pub late_lt : LateCall → LateCall → Bool
late_lt c d = nat_lt c.number d.number

-- the node with a call more whose answer comes late
abbrev pub with_late : LateCall → Node → Node
with_late c n = record n { late = inserted late_lt c n.late }

-- an invocation that waits is answered, and its call is late
abbrev pub give_up : InvState → Invocation → List Invocation → Node → Option Effect
give_up (Waits call peer what) i below n =
    let c : LateCall = record { number = call.number; peer = peer; what = what } in
    Some (only (with_late c (with_stack (answered (Raised TimedOut) i ∷ below) n)))
give_up state i below n = None

-- the top invocation waits no longer
abbrev pub time_out_on : List Invocation → Node → Option Effect
time_out_on [] n = None
time_out_on (i ∷ below) n = give_up i.state i below n

-- what a time-out does, where it is enabled
abbrev pub time_out : Node → Option Effect
time_out n = time_out_on n.stack n
