use Rattle.do_stack.proofs.stack.Stack.place.Given as goal
use Rattle.std.proofs.Common.{◌≡◌, ℕ, ◌<◌, false, get_or}
use Rattle.do_behave.specs.declared.invocation.Invocation.{Invocation}
use Rattle.do_stack.specs.Waiting.{waits_for}

-- none of the invocations so far waits for the call
abbrev pub invariant-loop-at : goal.invariant-loop-at
invariant-loop-at l = (k : ℕ) (d : Invocation) → k < l.at
    → waits_for l.call l.peer (get_or l.self.invocations k d).state ≡ false
