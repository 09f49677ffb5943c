use Rattle.do_import.proofs.lends.Lends.len.Goals as goal
use Rattle.std.{proofs.Common.{sym, ap, ◌∙◌, length}, specs.FinMap.entries-from_sorted}
use Rattle.do_export.specs.Counts.{entry_cmp}

-- there are as many lends as rows
pub returns : goal.returns
returns c = rw (← c.self.view_is) (c.len.ensures
    ∙ ap length (sym (entries-from_sorted entry_cmp c.self.inside.lends.rows c.self.invariant)))
