-- Where the answer of an invocation goes.
use Rattle.do_behave.specs.declared.invocation.Reason.TheVariants as reasons
use Rattle.std.specs.Prelude.{List, None, Option, Some, [], not, ◌∷◌}
use Rattle.do_base.specs.{values.Kinds.number, declared.values.value.Value.TheVariants.Text}
use Rattle.do_base.specs.declared.events.exception.Exc.{Exc}
use Rattle.do_behave.specs.declared.invocation.{Answer.Answer, Handler.Handler}
use Rattle.do_behave.specs.declared.invocation.{Invocation.Invocation, Reason.Reason}
use Rattle.do_behave.specs.declared.invocation.Answer.TheVariants.{Raised}
use Rattle.do_machine.specs.{declared.{node.Node.Node, state.Effect.Effect}, Chain.when◌then◌}
use Rattle.do_machine.specs.{Chain.◌>>◌, Effect.{only, showing}, Context.RunContext, State.is_open}
use Rattle.do_machine.specs.run.Answers.{answer_line, exc_name, oneway_answer, replying}
use Rattle.do_machine.specs.run.{Changes.{answered, goes_on}, Fresh.with_stack}

-- the node with the top invocation replaced
abbrev pub with_top : RunContext → Invocation → Node
with_top r i = with_stack (i ∷ r.below) r.context.node

-- the node without the top invocation
abbrev pub popped : RunContext → Node
popped r = with_stack r.below r.context.node

-- the invocations below, of which the first is answered
abbrev pub below_answered : Answer → List Invocation → List Invocation
below_answered a [] = []
below_answered a (i ∷ is) = answered a i ∷ is

-- the top invocation is popped, and its answer goes where it is waited for
abbrev pub delivery : RunContext → Answer → Reason → Effect
delivery r a reasons.Start = showing (answer_line a) (popped r)
delivery r a reasons.Local = only (with_stack (below_answered a r.below) r.context.node)
delivery r a (reasons.Oneway peer) = oneway_answer a (popped r)
delivery r a (reasons.Call peer number) = do
  when not (is_open r.context.node peer) then only (popped r)
  replying r peer number a (popped r)

-- an exception goes to the handler of the invocation, which stays, or ends it
abbrev pub failing : RunContext → Exc → Option Handler → Effect
failing r e None = delivery r (Raised e) r.top.reason
failing r e (Some h) = only (with_top r (goes_on h.into (Text (exc_name e)) h.pc r.top))
