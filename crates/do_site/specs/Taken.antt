-- A node's own state once the answer of its top invocation was taken, to be used.
use Rattle.std.specs.Prelude.{◌≡◌, ◌≤◌}
use Rattle.do_machine.specs.{declared.node.Node.Node, run.Fresh.with_stack}
use Rattle.do_network.specs.Own.{Own}
use Rattle.do_part.specs.Owned.{Owned}
use Rattle.do_stack.specs.{Answered.answer_taken, Waiting.with_top}

-- the node once its top invocation's answer was taken
abbrev pub taken : Node → Node
taken n = with_stack (with_top answer_taken n.stack) n

-- its own state then
abbrev pub own_taken : Own → Own
own_taken p = record p { node = taken p.node }

-- the answer of the top invocation was taken, and no room
pub record IsTaken (before after : Owned) : Type 0 where
  pub own : after.own ≡ own_taken before.own
  pub objects : after.room.objects ≡ before.room.objects
  pub invocations : after.room.invocations ≡ before.room.invocations
  pub names : before.room.names ≤ after.room.names
  pub entries : after.room.entries ≡ before.room.entries
