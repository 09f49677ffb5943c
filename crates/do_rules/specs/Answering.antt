-- What an answer is to: the call, and what the invocation that waits for it asked for.
use Rattle.std.specs.Prelude.{List, None, Option, Some, [], if◌then◌else◌, ◌∷◌}
use Rattle.do_behave.specs.declared.invocation.{Invocation.Invocation, InvState.InvState}
use Rattle.do_behave.specs.declared.invocation.{InvState.TheVariants.Waits, Waited.Waited}
use Rattle.do_machine.specs.take.Awaiting.{AnsweredCall, awaits}
use Rattle.do_rules.specs.declared.take.awaiting.Answered.{Answered}

-- a call, as its answer names it
abbrev pub call_of : Answered → AnsweredCall
call_of k = record { peer = k.peer; number = k.number; root = k.root }

-- what an invocation of this state asked for
abbrev pub asked_by : InvState → Option Waited
asked_by (Waits call peer what) = Some what
asked_by _ = None

-- what the invocation that waits for an answer asked for
abbrev pub awaited_in : AnsweredCall → List Invocation → Option Waited
awaited_in k [] = None
awaited_in k (i ∷ below) = if awaits k i.state then asked_by i.state else awaited_in k below
