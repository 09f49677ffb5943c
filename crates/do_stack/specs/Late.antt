-- The call that is given up.
use Rattle.std.specs.Prelude.{List, [], ◌∷◌, Option, Some, None}
use Rattle.do_behave.specs.declared.invocation.{Invocation.Invocation, InvState.InvState}
use Rattle.do_behave.specs.declared.invocation.InvState.TheVariants.{Waits}
use Rattle.do_machine.specs.declared.node.LateCall.{LateCall}

-- the call that an invocation of this state waits for, as it is kept once it is given up
abbrev pub late_of : InvState → Option LateCall
late_of (Waits call p asked) =
    Some (record { number = call.number; peer = p; what = asked })
late_of _ = None

-- the call that the top invocation waits for
abbrev pub top_call : List Invocation → Option LateCall
top_call [] = None
top_call (top ∷ below) = late_of top.state
