-- What contracts see of a stack.
use Rattle.std.specs.{Prelude.{ℕ, min, ◌-◌, List}, VecDeque.{deque_len, deque_capacity}}
use Rattle.std.specs.declared.{collections.VecDeque.VecDeque, alloc.Global.Global}
use Rattle.do_behave.specs.declared.invocation.Invocation.{Invocation}
use Rattle.do_machine.specs.declared.node.LateCall.{LateCall}
use Rattle.do_stack.specs.LateCalls.{Kept}

-- the invocations, the top first, the late calls by rising number, and how many more of either fit
pub record Stacked : Type 0 where
  pub invocations : List Invocation
  pub late : List LateCall
  pub spare : ℕ

-- the invocations with the late calls, and the room for both
abbrev pub stacked_of : VecDeque Invocation Global → Kept → Stacked
stacked_of invs late = record {
  invocations = invs.items;
  late = late.calls;
  spare = min (deque_capacity invs - deque_len invs) late.spare;
}
