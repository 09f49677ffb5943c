use Rattle.do_export.proofs.Exports.count.Goals as goal
use Rattle.std.proofs.Common.{sym, ap, ◌∙◌}
use Rattle.std.specs.{Option.unwrap_or, FinMap.{find, get-from_sorted}}
use Rattle.do_export.specs.Counts.{entry_cmp}

-- the row that is found has the count
pub returns-in-Some : goal.returns-in-Some
returns-in-Some c =
    let rows = c.self.inside.counts.rows in
    let found = get-from_sorted entry_cmp rows (c.args.peer, c.args.serial)
    c.self.invariant.sorted in
    rw (← c.self.view_is)
    (ap (λ o. unwrap_or o 0)
    (c.in-Some.ensures ∙ ap (λ p. find entry_cmp (p, c.args.serial) rows) c.port.ensures.value
    ∙ sym found))

-- where no row is found the count is 0
pub returns-in-None : goal.returns-in-None
returns-in-None c =
    let rows = c.self.inside.counts.rows in
    let found = get-from_sorted entry_cmp rows (c.args.peer, c.args.serial)
    c.self.invariant.sorted in
    rw (← c.self.view_is)
    (ap (λ o. unwrap_or o 0)
    (c.in-None.ensures ∙ ap (λ p. find entry_cmp (p, c.args.serial) rows) c.port.ensures.value
    ∙ sym found))
