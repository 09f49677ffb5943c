use Rattle.do_part.proofs.part.Part.fill_each.Given as goal
use Rattle.std.{proofs.Common.{◌≡◌, ◌+◌, ◌≤◌, length}, specs.Vec.Iter.into_iter_items}
use Rattle.do_part.specs.{Filled.{filled, made_values}, Names.{values_of, sizes_of, AreStored}}

-- the objects that are left come after those that are filled
abbrev pub invariant-loop-copy : goal.invariant-loop-copy
invariant-loop-copy l = record {
  own : record l.self.own {
    node = filled l.serial (into_iter_items l.copy-iterator) l.self.own.node;
  } ≡ record l.fn.self.own { node = filled l.first l.fn.copies l.fn.self.own.node };
  objects : l.self.room.objects ≡ l.fn.self.room.objects;
  invocations : l.self.room.invocations ≡ l.fn.self.room.invocations;
  names : l.fn.self.room.names + sizes_of (made_values (into_iter_items l.copy-iterator))
      ≤ l.self.room.names + sizes_of (made_values l.fn.copies);
  entries : l.self.room.entries ≡ l.fn.self.room.entries;
  enough : sizes_of (made_values (into_iter_items l.copy-iterator)) ≤ l.self.room.names;
  stored : AreStored l.self.own.node (values_of (made_values (into_iter_items l.copy-iterator)));
  count : l.serial + length (into_iter_items l.copy-iterator) ≡ l.first + length l.fn.copies;
}
