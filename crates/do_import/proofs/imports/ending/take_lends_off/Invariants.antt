use Rattle.std.specs.FinMap as map
use Rattle.do_import.proofs.imports.ending.take_lends_off.Given as goal
use Rattle.std.proofs.Common.{◌≡◌, ◌≤◌, drop}
use Rattle.do_import.specs.Imported.{all_off, lent_to}

-- what the lends still to come take off is all that is to be taken off yet
abbrev pub invariant-loop-at : goal.invariant-loop-at
invariant-loop-at l = (l.holdings.received ≡ l.fn.holdings.received)
    × (all_off l.holdings.uses (lent_to l.borrower (drop l.at (map.entries l.lends.lends)))
    ≡ all_off l.fn.holdings.uses (lent_to l.borrower (map.entries l.lends.lends)))
    × (l.fn.holdings.spare ≤ l.holdings.spare)
    × (all_off l.named.rows (lent_to l.borrower (drop l.at (map.entries l.lends.lends)))
    ≡ all_off l.fn.named.rows (lent_to l.borrower (map.entries l.lends.lends)))
    × (l.fn.named.spare ≤ l.named.spare)
    × (l.holdings.places ≡ l.fn.holdings.places)
