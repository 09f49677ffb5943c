use Rattle.do_part.proofs.part.Part.set_locals.Given as goal
use Rattle.std.proofs.Common.{◌≡◌, ◌+◌, ◌<◌, ◌≤◌, length}
use Rattle.do_behave.specs.Changes.{with_set}
use Rattle.do_machine.specs.run.{Changes.steps_to, Fresh.with_stack}
use Rattle.do_stack.specs.Waiting.{with_top}
use Rattle.do_part.specs.{Changed.set_values, Names.{values_of, sizes_of, AreStored}}

-- the sets that are left come after those that are done
abbrev pub invariant-loop-sets : goal.invariant-loop-sets
invariant-loop-sets l = record {
  own : record l.self.own {
    node = with_stack (with_top (λ i. steps_to l.pc (with_set i.locals l.sets) l.handler i)
        l.self.own.node.stack) l.self.own.node;
  } ≡ record l.fn.self.own {
    node = with_stack (with_top (λ i. steps_to l.pc (with_set i.locals l.fn.sets) l.handler i)
        l.fn.self.own.node.stack) l.fn.self.own.node;
  };
  objects : l.self.room.objects ≡ l.fn.self.room.objects;
  invocations : l.self.room.invocations ≡ l.fn.self.room.invocations;
  names : l.fn.self.room.names + sizes_of (set_values l.sets)
      ≤ l.self.room.names + sizes_of (set_values l.fn.sets);
  entries : l.self.room.entries ≡ l.fn.self.room.entries;
  top : 0 < length l.self.own.node.stack;
  enough : sizes_of (set_values l.sets) ≤ l.self.room.names;
  stored : AreStored l.self.own.node (values_of (set_values l.sets));
}

-- a set less is left each time
abbrev pub decreases-loop-sets : goal.decreases-loop-sets
decreases-loop-sets l = length l.sets
