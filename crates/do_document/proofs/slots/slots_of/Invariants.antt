use Rattle.do_document.proofs.slots.slots_of.Given as goal
use Rattle.std.{proofs.Common.{◌≡◌, ◌≤◌, drop, length, map, take}, specs.List.filter_map}
use Rattle.do_document.specs.{Checks.{first_among, first_behind}, ClassFaults.slot_fault}
use Rattle.do_document.specs.Classes.{slot_of}

abbrev pub invariant-loop-k : goal.invariant-loop-k
invariant-loop-k l = record {
  faults : first_behind (slot_fault l.place) (map (λ t. t.now) (take l.k l.texts))
      (map (λ t. t.now) (drop l.k l.texts))
      ≡ first_among (slot_fault l.place) (map (λ t. t.now) l.texts);
  made : l.slots ≡ filter_map slot_of (map (λ t. t.now) (take l.k l.texts));
  few : length l.slots ≤ l.k;
}
