use Rattle.do_base.proofs.outside.sink.write_all.Goals as goal
use Rattle.std.proofs.Common.{arith, rules}
use Rattle.do_base.proofs.WrittenSoFar.{with_more-take}

pub loop-done-preserved : goal.loop-done-preserved
loop-done-preserved g c = record {
  within = search rules;
  written = rw (c.in_ok-count.ensures.ok, c.loop-done.invariant.written)
      (with_more-take (g.K.Sink.written c.args.out.now) c.args.bytes.now c.loop-done.done
      c.in_ok-count.count);
  later = omega (arith, c.put.ensures.later);
}
