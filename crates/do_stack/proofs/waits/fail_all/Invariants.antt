use Rattle.do_stack.proofs.waits.fail_all.Given as goal
use Rattle.std.proofs.Common.{◌≡◌, ℕ, ◌<◌, ◌≤◌, get_or, length}
use Rattle.do_behave.specs.declared.invocation.Invocation.{Invocation}
use Rattle.do_machine.specs.ends.Closing.{without_answer}

-- the invocations so far have failed, and the others stand as before
abbrev pub invariant-loop-inv : goal.invariant-loop-inv
invariant-loop-inv l = (length l.all ≡ length l.initial.all)
    × ((k : ℕ) (d : Invocation) → k < l.inv-index
    → get_or l.all k d ≡ without_answer l.peer (get_or l.initial.all k d))
    × ((k : ℕ) (d : Invocation) → l.inv-index ≤ k → get_or l.all k d ≡ get_or l.initial.all k d)
