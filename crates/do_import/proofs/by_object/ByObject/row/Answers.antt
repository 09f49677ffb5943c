use Rattle.do_import.proofs.by_object.ByObject.row.Goals as goal
use Rattle.std.{proofs.Common.{sym, ap, ◌∙◌, slice_get}, specs.FinMap.entries-from_sorted}
use Rattle.do_export.specs.Counts.{entry_cmp}

-- the rows are the objects in their order
pub returns : goal.returns
returns g c = rw (← c.self.view_is) (c.row.ensures.value
    ∙ ap (λ es. slice_get es c.args.at)
    (sym (entries-from_sorted entry_cmp c.self.inside.rows.rows c.self.invariant)))
