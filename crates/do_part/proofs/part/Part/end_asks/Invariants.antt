use Rattle.do_part.proofs.part.Part.end_asks.Given as goal
use Rattle.std.proofs.Common.{◌≡◌, ◌+◌, ◌≤◌, ◌++◌, ◌==◌, filter, length, map as each, not, vec_len}
use Rattle.std.proofs.Common.{vec_capacity}
use Rattle.do_machine.specs.ends.Closing.{asked_of}
use Rattle.do_network.specs.Counting.{of_known}
use Rattle.do_part.specs.Parting.{without_asks}

-- the asks of other homes are as they were, and what is told goes before what is to be told
abbrev pub invariant-loop-token : goal.invariant-loop-token
invariant-loop-token l = record {
  own : l.self.own ≡ record l.fn.self.own {
    node = record l.fn.self.own.node { asked = l.self.own.node.asked };
    classes = l.self.own.classes;
  };
  others : filter (λ w. not (w.object.node == l.peer)) l.self.own.node.asked
      ≡ filter (λ w. not (w.object.node == l.peer)) l.fn.self.own.node.asked;
  known : of_known (without_asks l.peer l.fn.self.own.node) l.self.own.classes
      ≡ of_known (without_asks l.peer l.fn.self.own.node) l.fn.self.own.classes;
  told : l.settled.items ++ each (λ w. w.token) (asked_of l.peer l.self.own.node)
      ≡ l.fn.settled.items ++ each (λ w. w.token) (asked_of l.peer l.fn.self.own.node);
  room : vec_len l.settled + length (asked_of l.peer l.self.own.node) ≤ vec_capacity l.settled;
  capacity : vec_capacity l.settled ≡ vec_capacity l.fn.settled;
  objects : l.self.room.objects ≡ l.fn.self.room.objects;
  invocations : l.self.room.invocations ≡ l.fn.self.room.invocations;
  names : l.fn.self.room.names ≤ l.self.room.names;
  entries : l.fn.self.room.entries ≤ l.self.room.entries;
}

-- an ask less is left each time
abbrev pub decreases-loop-token : goal.decreases-loop-token
decreases-loop-token l = length (asked_of l.peer l.self.own.node)
