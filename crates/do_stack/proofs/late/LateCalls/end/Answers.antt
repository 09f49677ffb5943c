use Rattle.do_stack.proofs.late.LateCalls.end.Goals as goal
use Rattle.std.proofs.Common.{T, map, sym, ap, subst, ◌∙◌}
use Rattle.std.specs.{Ordering.nat_cmp, FinMap.{is_sorted, Entries.is_sorted-where_key}}
use Rattle.do_machine.specs.take.Awaiting.{AnsweredCall}
use Rattle.do_stack.{specs.LateCalls.call_of, proofs.rows.CallsAnswered.{removed_is, none_answered}}

-- the rows stay sorted where one is taken out
pub invariant_of-self : goal.invariant_of-self
invariant_of-self c =
    subst (λ rows. T (is_sorted nat_cmp rows)) (sym c.remove.ensures.after)
    (is_sorted-where_key nat_cmp _ c.self.inside.rows.rows c.self.invariant)

-- the call that is answered is the one whose row is taken out
pub returns-then-there-clause-calls : goal.returns-then-there-clause-calls
returns-then-there-clause-calls c =
    let k : AnsweredCall =
    record { peer = c.args.peer; number = c.args.number; root = c.args.root } in
    let found = sym c.has-there.ensures ∙ c.if-there.true in
    let seen = rw (← c.self.view_is) at found in
    rw (← c.self.view_is) (ap (map call_of) c.remove.ensures.after
    ∙ sym (removed_is k c.self.inside.rows.rows c.self.invariant seen))

-- no call is answered, and all stay
pub returns-else-there-clause-calls : goal.returns-else-there-clause-calls
returns-else-there-clause-calls c =
    let k : AnsweredCall =
    record { peer = c.args.peer; number = c.args.number; root = c.args.root } in
    sym (none_answered k c.args.self.now.calls (sym c.has-there.ensures ∙ c.if-there.false))
