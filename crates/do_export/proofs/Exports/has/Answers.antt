use Rattle.do_export.proofs.Exports.has.Goals as goal
use Rattle.std.proofs.Common.{sym, ap, ◌∙◌}
use Rattle.std.specs.{Option.is_some, FinMap.{find, get-from_sorted}}
use Rattle.do_export.specs.Counts.{entry_cmp}

-- there is an entry where a row is found
pub returns : goal.returns
returns c =
    let rows = c.self.inside.counts.rows in
    let found = get-from_sorted entry_cmp rows (c.args.peer, c.args.serial)
    c.self.invariant.sorted in
    rw (← c.self.view_is)
    (c.has.ensures
    ∙ ap is_some (ap (λ p. find entry_cmp (p, c.args.serial) rows) c.port.ensures.value
    ∙ sym found))
