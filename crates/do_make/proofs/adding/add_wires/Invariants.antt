-- What was taken out so far was counted.
use Rattle.do_make.proofs.adding.add_wires.Given as goal
use Rattle.std.proofs.Common.{◌≡◌, ◌+◌, length, sum_by}
use Rattle.do_network.specs.declared.wire.Wire.{Wire}

abbrev pub invariant-loop-wire : goal.invariant-loop-wire
invariant-loop-wire g l = record {
  rest : l.sum ≡ record l.fn.sum { frames = l.sum.frames; bytes = l.sum.bytes };
  frames : l.sum.frames + length l.net.wires.items
      ≡ l.fn.sum.frames + length l.fn.net.wires.items;
  bytes : l.sum.bytes + sum_by (λ (w : Wire). length w.bytes) l.net.wires.items
      ≡ l.fn.sum.bytes + sum_by (λ (w : Wire). length w.bytes) l.fn.net.wires.items;
  table : l.net.table ≡ l.fn.net.table;
  acts : l.net.acts ≡ l.fn.net.acts;
  hosts : l.net.hosts ≡ l.fn.net.hosts;
  spent : l.net.spent ≡ l.fn.net.spent;
}

abbrev pub decreases-loop-wire : goal.decreases-loop-wire
decreases-loop-wire g l = length l.net.wires.items
