-- What the program judges a step by, as the definitions have it.
use Rattle.std.specs.Prelude.{Bool, List, Option, [], option_map, ℕ, ◌∷◌, ◌≡◌}
use Rattle.do_base.specs.declared.values.value.Value.{Value}
use Rattle.do_behave.specs.declared.invocation.Invocation.{Invocation}
use Rattle.do_machine.specs.declared.{node.Node.Node, state.{State.State, Effect.Effect}}
use Rattle.do_machine.specs.{Effect.only, Entry.has_entry, State.{own, stored}}
use Rattle.do_machine.specs.Context.{Context, Found, RunContext, context}
use Rattle.do_rules.specs.declared.judged.{Context.Context as Judged, Run.Run}
use Rattle.do_rules.specs.declared.node.methods.Found.{Found as Seen}

-- a step of a node
abbrev pub step_of : Judged → Context
step_of c = context c.table.now c.state.now c.node.now

-- a run of a node
abbrev pub run_of : Run → RunContext
run_of r = record { context = step_of r.context; top = r.top.now; below = r.below.now }

-- a run of the invocation on top of its node's stack
abbrev pub IsOfNode : Run → Type 0
IsOfNode r = r.context.node.now.stack ≡ r.top.now ∷ r.below.now

-- a node as it is before a run of it
abbrev pub IsRunAt : Run → Node → Type 0
IsRunAt r n = (n ≡ r.context.node.now) × IsOfNode r

-- an effect of a run that nothing was done to yet
abbrev pub IsBegun : Run → Effect → Type 0
IsBegun r e = (e ≡ only r.context.node.now) × IsOfNode r

-- a run as it is judged, in which the invocations below do not matter
abbrev pub turn_in : Context → Invocation → RunContext
turn_in c top = record { context = c; top = top; below = [] }

-- a method with its signature
abbrev pub found_of : Seen → Found
found_of f = record { id = f.id; signature = f.signature.now }

-- what the slots of an own object hold
abbrev pub own_slots : Node → ℕ → Option (List Value)
own_slots n serial = option_map (λ x. x.slots) (stored serial n.heap)

-- whether a peer has an entry of the own object of a serial
abbrev pub entry_in : State → Node → ℕ → ℕ → Bool
entry_in S n peer serial = has_entry S peer (own n serial)
