-- What a run does to its node.
use Rattle.std.specs.Prelude.{List, None, Option, Some, [], option_map, ◌∷◌}
use Rattle.do_base.specs.declared.values.value.Value.{Value}
use Rattle.do_class.specs.Class.{Class}
use Rattle.do_behave.specs.declared.{act.Act.Act, invocation.{Answer.Answer, Invocation.Invocation}}
use Rattle.do_behave.specs.declared.invocation.InvState.{InvState}
use Rattle.do_behave.specs.declared.invocation.Answer.TheVariants.{Given, Raised}
use Rattle.do_behave.specs.declared.invocation.InvState.TheVariants.{Answered, Running}
use Rattle.do_machine.specs.declared.{node.Stored.Stored, state.Effect.Effect}
use Rattle.do_machine.specs.declared.verdict.Verdict.{Verdict, TheVariants.{Fails, Uses}}
use Rattle.do_machine.specs.{Context.{Context, RunContext}, State.stored, run.Acts.act_rule}
use Rattle.do_machine.specs.run.Verdicts.{effect_of}

-- what a behaviour answers, given the table
abbrev pub Acting : Type 0
Acting = List Class → Invocation → List Value → Act

-- the slots of the object of an invocation; one that is not stored has none
abbrev pub slots_seen : Option Stored → List Value
slots_seen None = []
slots_seen (Some x) = x.slots

-- the next act of the top invocation
abbrev pub next_act : Acting → RunContext → Act
next_act act r =
    act r.context.table r.top (slots_seen (stored r.top.object.serial r.context.node.heap))

-- an answer that came is used, and an exception is raised
abbrev pub answer_rule : Answer → Verdict
answer_rule (Given v outs) = Uses v outs
answer_rule (Raised e) = Fails e

-- a running invocation does its next act, and an answered one uses its answer
abbrev pub state_rule : Acting → RunContext → InvState → Option Verdict
state_rule act r Running = Some (act_rule r (next_act act r))
state_rule act r (Answered a) = Some (answer_rule a)
state_rule act r _ = None

-- by the stack of the node: one without an invocation does nothing
abbrev pub run_on : Acting → Context → List Invocation → Option Effect
run_on act c [] = None
run_on act c (i ∷ is) =
    let r : RunContext = record { context = c; top = i; below = is } in
    option_map (effect_of r) (state_rule act r i.state)

-- what a run does, where it is enabled
abbrev pub run_effect : Acting → Context → Option Effect
run_effect act c = run_on act c c.node.stack
