use Rattle.std.specs.FinMap as map
use Rattle.do_part.proofs.part.Part.end_entries.Given as goal
use Rattle.std.proofs.Common.{◌≡◌, ◌≤◌, true}
use Rattle.do_export.specs.Counts.{others_of}
use Rattle.do_machine.specs.State.{is_open}

-- the other peers have what they had, and all but entries is as it was
abbrev pub invariant-loop-serial : goal.invariant-loop-serial
invariant-loop-serial l = record {
  own : l.self.own ≡ record l.fn.self.own { counts = l.self.own.counts };
  others : others_of l.self.own.counts l.peer ≡ others_of l.fn.self.own.counts l.peer;
  ends : is_open l.self.own.node l.peer ≡ true;
  objects : l.self.room.objects ≡ l.fn.self.room.objects;
  invocations : l.self.room.invocations ≡ l.fn.self.room.invocations;
  names : l.fn.self.room.names ≤ l.self.room.names;
  entries : l.fn.self.room.entries ≤ l.self.room.entries;
}

-- an entry less is left each time
abbrev pub decreases-loop-serial : goal.decreases-loop-serial
decreases-loop-serial l = map.len l.self.own.counts
