use Rattle.do_part.proofs.part.Part.fill.Given as goal
use Rattle.std.{proofs.Common.{◌≡◌, ◌+◌, ◌≤◌, length}, specs.Vec.Iter.into_iter_items}
use Rattle.do_machine.specs.run.Changes.{with_slots}
use Rattle.do_part.specs.{Filled.writes_from, Names.{values_of, sizes_of, AreStored}}

-- the slots that are left come after those that are written
abbrev pub invariant-loop-value : goal.invariant-loop-value
invariant-loop-value l = record {
  own : record l.self.own {
    node = with_slots l.serial (writes_from l.at (into_iter_items l.value-iterator))
        l.self.own.node;
  } ≡ record l.fn.self.own {
    node = with_slots l.serial (writes_from 0 l.fn.slots) l.fn.self.own.node;
  };
  objects : l.self.room.objects ≡ l.fn.self.room.objects;
  invocations : l.self.room.invocations ≡ l.fn.self.room.invocations;
  names : l.fn.self.room.names + sizes_of (into_iter_items l.value-iterator)
      ≤ l.self.room.names + sizes_of l.fn.slots;
  entries : l.self.room.entries ≡ l.fn.self.room.entries;
  enough : sizes_of (into_iter_items l.value-iterator) ≤ l.self.room.names;
  stored : AreStored l.self.own.node (values_of (into_iter_items l.value-iterator));
  count : l.at + length (into_iter_items l.value-iterator) ≡ length l.fn.slots;
}
