use Rattle.do_import.proofs.asks.Asks.has_key.Goals as goal
use Rattle.do_import.proofs.AskRows.{kept_is}

-- there is an ask where a row is found
pub returns : goal.returns
returns c = rw (← c.self.view_is)
    (kept_is c.self.inside.asks.rows c.self.invariant c.args.key.now _ c.has.ensures)
