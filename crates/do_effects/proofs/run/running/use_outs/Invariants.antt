use Rattle.do_effects.proofs.run.running.use_outs.Given as goal
use Rattle.std.proofs.Common.{◌≡◌, ◌+◌, ◌≤◌, length}
use Rattle.do_part.specs.Names.{AreStored, sizes_of, values_of}
use Rattle.do_effects.specs.{Outs.uses_outs, Plans.{IsRunning, top_changed}}

-- using the out values that are left as well uses all, in the room for these
abbrev pub invariant-loop-at : goal.invariant-loop-at
invariant-loop-at l = record {
  runs : IsRunning l.part.own.node.stack;
  stored : AreStored l.part.own.node (values_of l.outs);
  room : sizes_of l.outs ≤ l.part.room.names;
  left : l.at + length l.outs ≡ l.at-end;
  own : record l.part.own { node = top_changed (uses_outs l.at l.outs) l.part.own.node }
      ≡ record l.initial.part.own {
        node = top_changed (uses_outs 0 l.fn.outs) l.initial.part.own.node;
      };
}
