use Rattle.do_import.proofs.lends.Lends.row.Goals as goal
use Rattle.std.{proofs.Common.{sym, ap, ◌∙◌, slice_get}, specs.FinMap.entries-from_sorted}
use Rattle.do_export.specs.Counts.{entry_cmp}

-- the rows are the lends in their order
pub returns : goal.returns
returns c = rw (← c.self.view_is) (c.row.ensures.value
    ∙ ap (λ es. slice_get es c.args.at)
    (sym (entries-from_sorted entry_cmp c.self.inside.lends.rows c.self.invariant)))
