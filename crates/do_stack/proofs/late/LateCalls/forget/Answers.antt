use Rattle.do_stack.proofs.late.LateCalls.forget.Goals as goal
use Rattle.std.proofs.Common.{◌==◌, T, map, not, rules, sym, ap, subst, ◌∙◌}
use Rattle.std.{proofs.lemmas.Fn.filter_same, specs.{Ordering.nat_cmp, FinMap.is_sorted}}
use Rattle.do_stack.{specs.LateCalls.call_of, proofs.rows.RowsFiltered.{others_stay, sorted_rows}}

-- the rows stay sorted where some are taken out
pub invariant_of-self : goal.invariant_of-self
invariant_of-self c =
    let rows = filter_same _ (λ row. not (row.1.0 == c.args.peer)) _
    (λ x b f called. search rules) _ _ c.retain.ensures.filtered in
    subst (λ rows. T (is_sorted nat_cmp rows)) (sym rows)
    (sorted_rows (λ row. not (row.1.0 == c.args.peer)) c.self.inside.rows.rows c.self.invariant)

-- to keep the rows of other peers is to keep the calls to them
pub returns-clause-calls : goal.returns-clause-calls
returns-clause-calls c =
    let rows = filter_same _ (λ row. not (row.1.0 == c.args.peer)) _
    (λ x b f called. search rules) _ _ c.retain.ensures.filtered in
    rw (← c.self.view_is) (ap (map call_of) rows ∙ others_stay c.args.peer c.self.inside.rows.rows)
