use Rattle.do_part.proofs.part.Part.write_all.Given as goal
use Rattle.std.proofs.Common.{◌≡◌, ◌+◌, ◌≤◌, length}
use Rattle.do_machine.specs.run.Changes.{with_slots}
use Rattle.do_part.specs.{Changed.written_values, Names.{values_of, sizes_of, AreStored}}

-- the writes that are left come after those that are done
abbrev pub invariant-loop-writes : goal.invariant-loop-writes
invariant-loop-writes l = record {
  own : record l.self.own { node = with_slots l.serial l.writes l.self.own.node }
      ≡ record l.fn.self.own { node = with_slots l.serial l.fn.writes l.fn.self.own.node };
  objects : l.self.room.objects ≡ l.fn.self.room.objects;
  invocations : l.self.room.invocations ≡ l.fn.self.room.invocations;
  names : l.fn.self.room.names + sizes_of (written_values l.writes)
      ≤ l.self.room.names + sizes_of (written_values l.fn.writes);
  entries : l.self.room.entries ≡ l.fn.self.room.entries;
  enough : sizes_of (written_values l.writes) ≤ l.self.room.names;
  stored : AreStored l.self.own.node (values_of (written_values l.writes));
}

-- a write less is left each time
abbrev pub decreases-loop-writes : goal.decreases-loop-writes
decreases-loop-writes l = length l.writes
