use Rattle.do_import.proofs.imports.Imports.leave_next.Goals as goal
use Rattle.do_import.proofs.KeptClasses.{left_classes}

-- the class of an object that leaves stays where it was asked for
pub invariant_of-self-2 : goal.invariant_of-self-2
invariant_of-self-2 c = rw (c.leave_class.ensures.rows, c.in-Some.ensures.which.2)
    (record {
      known = left_classes _ _ _ c.self.invariant.known _;
      counts = c.self.invariant.counts;
      names = c.self.invariant.names;
      numbers = c.self.invariant.numbers;
    })
