use Rattle.std.specs.FinMap as map
use Rattle.do_import.proofs.by_object.ByObject+ClassId.end_home.Goals as goal
use Rattle.std.proofs.Common.{◌==◌, not, ◌||◌, rules, ap, sym, ◌∙◌, subst, T}
use Rattle.std.{proofs.lemmas.Fn.filter_same, specs.FinMap.{is_sorted, Entries.is_sorted-where_key}}
use Rattle.do_sorted.proofs.RowsAsMap.{from_where_key}
use Rattle.do_export.{specs.Counts.entry_cmp, proofs.Order.{entry_total, entry_same}}

-- the rows that are left are still in their order
pub invariant_of-self : goal.invariant_of-self
invariant_of-self c =
    let rows = filter_same _
    (λ row. not (row.0.0 == c.args.home) || map.contains_key c.args.counted.now.rows row.0) _
    (λ x b f called. search rules) _ _ c.retain.ensures.filtered in
    subst (λ r. T (is_sorted entry_cmp r)) (sym rows) (is_sorted-where_key entry_cmp
    (λ k. not (k.0 == c.args.home) || map.contains_key c.args.counted.now.rows k)
    c.self.inside.rows.rows c.self.invariant)

-- the rows of other homes are left, and those that are counted
pub returns-clause-rows : goal.returns-clause-rows
returns-clause-rows c =
    let rows = filter_same _
    (λ row. not (row.0.0 == c.args.home) || map.contains_key c.args.counted.now.rows row.0) _
    (λ x b f called. search rules) _ _ c.retain.ensures.filtered in
    rw (← c.self.view_is) (ap map.from_sorted rows ∙ from_where_key entry_total entry_same
    (λ k. not (k.0 == c.args.home) || map.contains_key c.args.counted.now.rows k) _
    c.self.invariant)
