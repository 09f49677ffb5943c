use Rattle.do_rules.proofs.run.fresh.with_serials.Given as goal
use Rattle.std.proofs.Common.{◌≡◌, ◌+◌, take}
use Rattle.do_machine.specs.run.Fresh.{with_serials}

abbrev pub invariant-loop-made : goal.invariant-loop-made
invariant-loop-made l = record {
  stored : l.stored ≡ with_serials l.serial (take l.made-index l.made-items);
  next : l.next ≡ l.serial + l.made-index;
}
