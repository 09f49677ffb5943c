use Rattle.do_import.proofs.by_object.ByObject.len.Goals as goal
use Rattle.std.{proofs.Common.{sym, ap, ◌∙◌, length}, specs.FinMap.entries-from_sorted}
use Rattle.do_export.specs.Counts.{entry_cmp}

-- there are as many objects as rows
pub returns : goal.returns
returns g c = rw (← c.self.view_is) (c.len.ensures
    ∙ ap length (sym (entries-from_sorted entry_cmp c.self.inside.rows.rows c.self.invariant)))
