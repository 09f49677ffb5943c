use Rattle.do_import.proofs.asks.Asks.class_at.Goals as goal
use Rattle.std.{proofs.Common.{sym, ◌∙◌}, specs.FinMap.get-from_sorted}
use Rattle.do_import.specs.Asked.{ask_cmp}

-- the row that is found has the class
pub returns : goal.returns
returns c = rw (← c.self.view_is) (c.copied.ensures ∙ c.get.ensures
    ∙ sym (get-from_sorted ask_cmp c.self.inside.asks.rows c.args.key.now c.self.invariant))
