-- Which invocation waits for a call, and what it asked for. The top comes first.
use Rattle.std.specs.Prelude.{ℕ, Bool, false, ◌&&◌, ◌==◌, List, [], ◌∷◌, Option, Some, None}
use Rattle.std.specs.Prelude.{if◌then◌else◌}
use Rattle.do_base.specs.names.Names.{CallName}
use Rattle.do_behave.specs.declared.invocation.{Answer.Answer, Invocation.Invocation}
use Rattle.do_behave.specs.declared.invocation.InvState.{InvState, TheVariants.Waits}
use Rattle.do_behave.specs.declared.invocation.Waited.{Waited}
use Rattle.do_machine.specs.{Lists.change_first, run.Changes.answered}

-- two names are of one call
abbrev pub same_call : CallName → CallName → Bool
same_call x y = (x.node == y.node) && (x.number == y.number)

-- an invocation of this state waits for a call to a peer
abbrev pub waits_for : CallName → ℕ → InvState → Bool
waits_for call peer (Waits c p what) = same_call c call && (p == peer)
waits_for call peer _ = false

-- what an invocation of this state asked for
abbrev pub asked_by : InvState → Option Waited
asked_by (Waits c p what) = Some what
asked_by _ = None

-- what the invocation that waits for a call asked for, wherever it stands
abbrev pub waiting : CallName → ℕ → List Invocation → Option Waited
waiting call peer [] = None
waiting call peer (i ∷ below) =
    if waits_for call peer i.state then asked_by i.state else waiting call peer below

-- the invocation that waits for a call has its answer, wherever it stands
abbrev pub with_answer : CallName → ℕ → Answer → List Invocation → List Invocation
with_answer call peer a stack =
    change_first (λ i. waits_for call peer i.state) (answered a) stack

-- a change of the top invocation
abbrev pub with_top : (Invocation → Invocation) → List Invocation → List Invocation
with_top f [] = []
with_top f (top ∷ below) = f top ∷ below
