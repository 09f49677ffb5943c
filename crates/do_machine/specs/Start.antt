-- How a node is started.
use Rattle.do_behave.specs.declared.invocation.Reason.TheVariants as reasons
use Rattle.std.specs.Prelude.{Bool, List, None, Option, Some, length, not, option_map, ℕ, ◌==◌}
use Rattle.do_base.specs.declared.values.value.Value.{Value}
use Rattle.do_class.specs.Class.{Class}
use Rattle.do_sig.specs.Calls.{args_fit}
use Rattle.do_behave.specs.declared.invocation.Invocation.{Invocation}
use Rattle.do_machine.specs.declared.{node.Node.Node, state.Effect.Effect}
use Rattle.do_machine.specs.{Chain.{when◌then◌, ◌>>=◌, ◌>>◌, ◌otherwise◌}, Effect.only}
use Rattle.do_machine.specs.{Context.{method_for, own_class}, State.own, run.Fresh.{fresh, pushed}}

-- a node with an invocation
abbrev pub is_busy : Node → Bool
is_busy n = not (length n.stack == 0)

-- the invocation that a start begins: the node is idle, its root has the method, and the values fit
abbrev pub begun : List Class → List ℕ → List Value → Node → Option Invocation
begun table selector values n = do
  when is_busy n then None
  root ← n.root otherwise None
  m ← method_for table (own_class n root) selector otherwise None
  when not (args_fit m.signature values) then None
  Some (fresh (own n root) m.id reasons.Start values)

-- what a start does, where it is enabled
abbrev pub start_effect : List Class → List ℕ → List Value → Node → Option Effect
start_effect table selector values n =
    option_map (λ i. only (pushed i n)) (begun table selector values n)
