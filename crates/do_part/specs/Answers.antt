-- What an answer of a peer does to the node that takes it.
use Rattle.std.specs.Prelude.{Option, Some, None}
use Rattle.do_behave.specs.declared.invocation.Answer.{Answer}
use Rattle.do_machine.specs.declared.node.Node.{Node}
use Rattle.do_machine.specs.take.Awaiting.{AnsweredCall, late_answered, stack_answered}

-- the invocation that waits for a call has its answer, and a late call is over; without an answer
-- only that
abbrev pub answered_with : AnsweredCall → Option Answer → Node → Node
answered_with k None n = record n { late = late_answered k n.late }
answered_with k (Some a) n = record n {
  stack = stack_answered k (λ what. a) n.stack;
  late = late_answered k n.late;
}
