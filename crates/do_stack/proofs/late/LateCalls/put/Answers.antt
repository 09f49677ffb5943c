use Rattle.do_stack.proofs.late.LateCalls.put.Goals as goal
use Rattle.std.{proofs.Common.{T, map, sym, ap, subst, ◌∙◌}, specs.Ordering.nat_cmp}
use Rattle.std.specs.{Cmp.nat_cmp_total, FinMap.{is_sorted, Entries.is_sorted-put}}
use Rattle.do_stack.{specs.LateCalls.call_of, proofs.rows.CallsKept.kept_is}

-- a row that is put in its place leaves the rows sorted
pub invariant_of-self : goal.invariant_of-self
invariant_of-self c =
    subst (λ rows. T (is_sorted nat_cmp rows)) (sym c.put.ensures.after)
    (is_sorted-put nat_cmp nat_cmp_total c.args.call.number (c.args.call.peer, c.args.call.what)
    c.self.inside.rows.rows c.self.invariant)

-- to put a call's row is to keep the call
pub returns-clause-calls : goal.returns-clause-calls
returns-clause-calls c =
    rw (← c.self.view_is) (ap (map call_of) c.put.ensures.after
    ∙ kept_is c.args.call.number (c.args.call.peer, c.args.call.what) c.self.inside.rows.rows
    c.self.invariant)
