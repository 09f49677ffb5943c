use Rattle.do_import.proofs.asks.Asks.put.Goals as goal
use Rattle.do_import.proofs.AskRows.{put_is}

-- the rows with one more are still in their order
pub invariant_of-self : goal.invariant_of-self
invariant_of-self c =
    (put_is c.self.inside.asks.rows c.put.new.self.rows c.self.invariant c.args.key.now c.args.class
    c.put.ensures.after).0

-- the ask is put in
pub returns-clause-asks : goal.returns-clause-asks
returns-clause-asks c =
    rw (← c.self.view_is)
    (put_is c.self.inside.asks.rows c.put.new.self.rows c.self.invariant c.args.key.now c.args.class
    c.put.ensures.after).1
