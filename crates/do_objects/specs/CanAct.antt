-- Each invocation can act: it runs a method that the table has, and has 16 locals.
use Rattle.std.specs.{Prelude.{List, Some, length, ℕ, ◌≡◌}, List.{All, AllByRecursion}}
use Rattle.std.specs.Option.{IsSome}
use Rattle.do_base.specs.declared.values.value.Value.{Value}
use Rattle.do_class.specs.{Class.Class, Table.method_at}
use Rattle.do_behave.specs.{Answers.HasLocals, declared.invocation.Invocation.Invocation}
use Rattle.do_machine.specs.{declared.{node.Node.Node, state.State.State}, State.node}
use Rattle.do_machine.specs.{World.HasSignatures, run.Run.Acting}

-- the table's signatures keep to what every signature keeps to, and over it each step of the
-- behaviour gives 16 locals
pub record KeepsLocals (table : List Class) (act : Acting) : Type 0 where
  pub signatures : All HasSignatures table
  pub steps : (i : Invocation) (slots : List Value) → HasLocals (act table i slots)

-- an invocation of a method that the table has, with 16 locals
abbrev pub CanAct : List Class → Invocation → Type 0
CanAct table i = IsSome (method_at table i.method) × (length i.locals ≡ 16)

-- each invocation of each node of a state is such a one
pub record AllCanAct (table : List Class) (S : State) : Type 0 where
  pub each : (port : ℕ) (n : Node) → node S port ≡ Some n →
      AllByRecursion (CanAct table) n.stack
