use Rattle.do_store.proofs.table.Table.next.Goals as goal
use Rattle.slab.specs.Slab.{get}
use Rattle.do_store.proofs.Listed.{rising-listed}

pub returns-clause-rising : goal.returns-clause-rising
returns-clause-rising c =
    rw (← c.self.view_is)
    (rising-listed (get c.self.inside.slots) 0 c.self.inside.next c.self.inside.pairs.items
    c.self.invariant.rising)
