use Rattle.do_import.proofs.asks.Asks.len.Goals as goal
use Rattle.std.proofs.Common.{length, sym, ap, ◌∙◌}
use Rattle.std.specs.FinMap.{len-entries, entries-from_sorted}
use Rattle.do_import.specs.Asked.{ask_cmp}

-- there are as many asks as rows
pub returns : goal.returns
returns c =
    let rows = c.self.inside.asks.rows in
    rw (← c.self.view_is)
    (c.len.ensures
    ∙ sym (len-entries _ ∙ ap length (entries-from_sorted ask_cmp rows c.self.invariant)))
