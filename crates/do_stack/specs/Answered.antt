-- The answer that an invocation has, and what taking it leaves.
use Rattle.std.specs.Prelude.{List, [], ◌∷◌, Option, Some, None}
use Rattle.do_base.specs.declared.values.value.Value.{Value}
use Rattle.do_behave.specs.declared.invocation.{Answer.Answer, Invocation.Invocation}
use Rattle.do_behave.specs.declared.invocation.InvState.{InvState, TheVariants.{Answered, Running}}
use Rattle.do_machine.specs.held.Refers.{answer_values}

-- the answer that an invocation of this state has
abbrev pub answer_of : InvState → Option Answer
answer_of (Answered a) = Some a
answer_of _ = None

-- the answer that the top invocation has
abbrev pub top_answer : List Invocation → Option Answer
top_answer [] = None
top_answer (top ∷ below) = answer_of top.state

-- the state once an answer was taken
abbrev pub state_taken : InvState → InvState
state_taken (Answered a) = Running
state_taken state = state

-- an invocation once its answer was taken, if it had one
abbrev pub answer_taken : Invocation → Invocation
answer_taken i = record i { state = state_taken i.state }

-- the values of an answer that was taken
abbrev pub values_taken : Option Answer → List Value
values_taken None = []
values_taken (Some a) = answer_values a
