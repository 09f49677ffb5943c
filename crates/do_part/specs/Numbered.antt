-- The calls of a node: each has a number of its own, whether it is waited for or was given up.
use Rattle.std.specs.Prelude.{◌≡◌, ℕ, ◌+◌, ◌<◌, ◌≤◌, ◌==◌, cond, List as Listed, sum_by}
use Rattle.do_behave.specs.declared.invocation.{Invocation.Invocation, InvState.InvState}
use Rattle.do_behave.specs.declared.invocation.InvState.TheVariants.{Waits}
use Rattle.do_machine.specs.declared.node.LateCall.{LateCall}

-- how often an invocation of this state waits for a call of a number: once or not at all
abbrev pub waits_at : ℕ → InvState → ℕ
waits_at k (Waits call peer what) = cond (call.number == k) 1 0
waits_at k _ = 0

-- how often it waits for a call of another node than this
abbrev pub waits_away : ℕ → InvState → ℕ
waits_away port (Waits call peer what) = cond (call.node == port) 0 1
waits_away port _ = 0

-- how many late calls have a number
abbrev pub late_at : ℕ → Listed LateCall → ℕ
late_at k late = sum_by (λ c. cond (c.number == k) 1 0) late

-- how many calls have a number, of those that invocations wait for and of the late ones
abbrev pub calls_at : ℕ → Listed Invocation → Listed LateCall → ℕ
calls_at k stack late = sum_by (λ i. waits_at k i.state) stack + late_at k late

-- each call is numbered once, by its own node, and below the next number
pub record IsNumbered (port : ℕ) (stack : Listed Invocation) (late : Listed LateCall) (next : ℕ)
    : Type 0 where
  pub once : (k : ℕ) → calls_at k stack late ≤ 1
  pub below : (k : ℕ) → 0 < calls_at k stack late → k < next
  pub home : sum_by (λ i. waits_away port i.state) stack ≡ 0
