use Rattle.do_import.proofs.imports.Imports.lend.Goals as goal
use Rattle.do_import.proofs.AskCounts.{lend_counted, lend_numbered}

-- a new lend is counted by its object, under a number below the next
pub invariant_of-self : goal.invariant_of-self
invariant_of-self c =
    rw (
      c.refer.ensures.received,
      c.add.ensures.rows,
      c.lend-number.ensures.lends,
      c.lend-number.ensures.next,
    )
    (record {
      known = c.self.invariant.known;
      counts = c.self.invariant.counts;
      names = lend_counted _ _ _ c.self.invariant.names _ c.args.borrower c.args.oid
          c.self.invariant.numbers;
      numbers = lend_numbered _ _ c.self.invariant.numbers c.args.borrower c.args.oid;
    })
