use Rattle.do_export.proofs.Exports.next_entry.Goals as goal
use Rattle.std.proofs.Common.{sym, ap, ◌∙◌}
use Rattle.do_sorted.specs.Rows.{first_from}
use Rattle.do_export.{specs.Counts.entry_cmp, proofs.Order.{none_of, other_of, lowest_of}}

-- where no row is found there is none behind
pub returns-in_default : goal.returns-in_default
returns-in_default c =
    let rows = c.self.inside.counts.rows in
    let first = ap (λ p. first_from entry_cmp (p, c.args.from) rows) (sym c.port.ensures.value)
    ∙ sym c.in_default.ensures in
    rw (← c.self.view_is) (none_of rows c.self.invariant.sorted c.args.peer c.args.from first)

-- where the row that is found is of another peer, there is none of the peer
pub returns-then-port : goal.returns-then-port
returns-then-port c =
    let rows = c.self.inside.counts.rows in
    let first = ap (λ p. first_from entry_cmp (p, c.args.from) rows) (sym c.port.ensures.value)
    ∙ sym c.in-Some.ensures in
    rw (← c.self.view_is) (other_of rows c.self.invariant.sorted c.args.peer c.args.from _ first
    (λ is. c.if-port.true (is ∙ sym c.port-2.ensures.value)))

-- else it is the lowest
pub returns : goal.returns
returns c =
    let rows = c.self.inside.counts.rows in
    let first = ap (λ p. first_from entry_cmp (p, c.args.from) rows) (sym c.port.ensures.value)
    ∙ sym c.in-Some.ensures in
    rw (← c.self.view_is) (lowest_of rows c.self.invariant.sorted c.args.peer c.args.from _ first
    (c.if-port.false ∙ c.port-2.ensures.value))
