use Rattle.do_import.proofs.asks.Asks.remove.Goals as goal
use Rattle.do_import.proofs.AskRows.{without_is}

-- the rows without one are still in their order
pub invariant_of-self : goal.invariant_of-self
invariant_of-self c =
    (without_is c.self.inside.asks.rows c.remove.new.self.rows c.self.invariant c.args.key.now
    c.remove.ensures.after).0

-- the ask is taken out
pub returns-clause-asks : goal.returns-clause-asks
returns-clause-asks c =
    rw (← c.self.view_is)
    (without_is c.self.inside.asks.rows c.remove.new.self.rows c.self.invariant c.args.key.now
    c.remove.ensures.after).1
