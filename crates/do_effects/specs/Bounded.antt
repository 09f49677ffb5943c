-- What a step tells and keeps at most.
use Rattle.std.specs.Prelude.{length, ◌+◌, ◌≡◌, ◌≤◌}
use Rattle.do_machine.specs.declared.node.Node.{Node}
use Rattle.do_effects.specs.{Room.Needs, declared.changing.Core.Core}

-- a core came of another: no more objects are stored, held and asked for, and no more is told, and
-- the links read by the same classes
pub record IsBounded (needs : Needs) (before after : Core) : Type 0 where
  pub waiting : before.streams.room ≤ after.streams.room + needs.waiting
  pub stored :
      length after.part.own.node.heap ≤ length before.part.own.node.heap + needs.objects
  pub held : length after.part.own.node.held ≤ length before.part.own.node.held + needs.entries
  pub asked : length after.part.own.node.asked ≤ length before.part.own.node.asked + needs.entries
  pub classes : after.streams.classes ≡ before.streams.classes

-- a node came of another: no more objects are stored, held and asked for
pub record HasNoMore (before after : Node) : Type 0 where
  pub stored : length after.heap ≤ length before.heap
  pub held : length after.held ≤ length before.held
  pub asked : length after.asked ≤ length before.asked
