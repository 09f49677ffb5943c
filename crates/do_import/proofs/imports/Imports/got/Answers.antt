use Rattle.do_import.proofs.imports.Imports.got.Goals as goal
use Rattle.do_import.proofs.KeptClasses.{got_classes}

-- the class is kept of an object that was received
pub invariant_of-self : goal.invariant_of-self
invariant_of-self c = rw (c.got.ensures.received, c.keep.ensures.rows)
    (record {
      known = got_classes _ _ _ c.self.invariant.known c.args.oid c.args.class;
      counts = c.self.invariant.counts;
      names = c.self.invariant.names;
      numbers = c.self.invariant.numbers;
    })
