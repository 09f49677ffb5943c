use Rattle.do_part.proofs.part.Part.create_blanks.Given as goal
use Rattle.std.{proofs.Common.{◌≡◌, ◌+◌, ◌≤◌, length}, specs.Vec.Iter.into_iter_items}
use Rattle.do_machine.specs.run.Fresh.{with_objects}
use Rattle.do_part.specs.{Filled.made_values, Names.sizes_of}

-- the objects that are left come after those that are created
abbrev pub invariant-loop-blank : goal.invariant-loop-blank
invariant-loop-blank l = record {
  own : record l.self.own {
    node = with_objects (into_iter_items l.blank-iterator) l.self.own.node;
  } ≡ record l.fn.self.own { node = with_objects l.fn.blanks l.fn.self.own.node };
  objects : l.fn.self.room.objects + length (into_iter_items l.blank-iterator)
      ≤ l.self.room.objects + length l.fn.blanks;
  invocations : l.self.room.invocations ≡ l.fn.self.room.invocations;
  names : l.fn.self.room.names ≤ l.self.room.names;
  entries : l.self.room.entries ≡ l.fn.self.room.entries;
  enough : length (into_iter_items l.blank-iterator) ≤ l.self.room.objects;
  blank : sizes_of (made_values (into_iter_items l.blank-iterator)) ≡ 0;
}
