use Rattle.do_store.proofs.table.Table.bound.Goals as goal
use Rattle.std.proofs.Common.{arith}
use Rattle.slab.specs.Slab.{get}
use Rattle.do_store.proofs.Listed.{length-listed, rising-listed}

pub returns-clause-bound : goal.returns-clause-bound
returns-clause-bound c =
    let h = length-listed (get c.self.inside.slots) c.self.inside.pairs.items in
    rw (← c.self.view_is) (omega (arith, h, c.len.ensures))

pub returns-clause-rising : goal.returns-clause-rising
returns-clause-rising c =
    rw (← c.self.view_is)
    (rising-listed (get c.self.inside.slots) 0 c.self.inside.next c.self.inside.pairs.items
    c.self.invariant.rising)
