use Rattle.do_import.proofs.imports.Imports.settle.Goals as goal
use Rattle.std.proofs.Common.{sym}
use Rattle.do_import.proofs.AskCounts.{settled_counted, settled_numbered}

-- a lend that is over is counted no more
pub invariant_of-self : goal.invariant_of-self
invariant_of-self c =
    rw (
      c.take_off.ensures.received,
      c.take_off-2.ensures.rows,
      c.settle.ensures.lends,
      c.settle.ensures.next,
    )
    (record {
      known = c.self.invariant.known;
      counts = c.self.invariant.counts;
      names = settled_counted _ _ _ c.self.invariant.names _ _ (sym c.in-Some.ensures);
      numbers = settled_numbered _ _ c.self.invariant.numbers _;
    })
