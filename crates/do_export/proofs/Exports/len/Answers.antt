use Rattle.do_export.proofs.Exports.len.Goals as goal
use Rattle.std.proofs.Common.{length, sym, ap, ◌∙◌}
use Rattle.std.specs.FinMap.{len-entries, entries-from_sorted}
use Rattle.do_export.specs.Counts.{entry_cmp}

-- there are as many entries as rows
pub returns-clause-many : goal.returns-clause-many
returns-clause-many c =
    let rows = c.self.inside.counts.rows in
    rw (← c.self.view_is)
    (c.len.ensures
    ∙ sym (len-entries _ ∙ ap length (entries-from_sorted entry_cmp rows c.self.invariant.sorted)))
