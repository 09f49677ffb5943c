use Rattle.do_import.proofs.imports.Imports.new.Goals as goal
use Rattle.do_import.proofs.KeptClasses.{no_classes}
use Rattle.do_import.proofs.AskCounts.{none_asked, none_named, none_numbered}

-- where there is nothing all counts are right
pub invariant_of-result : goal.invariant_of-result
invariant_of-result c =
    rw (
      c.new-6.ensures,
      c.new.ensures.received,
      c.new-2.ensures,
      c.new-3.ensures,
      c.new-4.ensures,
      c.new-5.ensures,
    )
    (record {
      known = no_classes;
      counts = none_asked;
      names = none_named;
      numbers = none_numbered 1;
    })
