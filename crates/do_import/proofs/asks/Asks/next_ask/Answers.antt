use Rattle.do_import.proofs.asks.Asks.next_ask.Goals as goal
use Rattle.std.proofs.Common.{◌≡◌, sym, ap, ◌∙◌}
use Rattle.do_sorted.specs.Rows.{first_from}
use Rattle.do_import.specs.Asked.{ask_cmp}
use Rattle.do_import.proofs.AskRows.{none_asked, other_asked, lowest_asked, are_same, are_other}

-- where no row is found there is none behind
pub returns-in_default-first_from : goal.returns-in_default-first_from
returns-in_default-first_from c =
    let rows = c.self.inside.asks.rows in
    let one : c.in-Some.least ≡ 1 = c.in-Some.ensures.some in
    let first = ap (λ l. first_from ask_cmp ((c.args.peer, l), (0, 0)) rows) (sym one)
    ∙ sym c.in_default-first_from.ensures in
    rw (← c.self.view_is) (none_asked rows c.self.invariant c.args.peer first)

-- where the row that is found is of another home, there is none of the home
pub returns-then-ne : goal.returns-then-ne
returns-then-ne c =
    let rows = c.self.inside.asks.rows in
    let one : c.in-Some.least ≡ 1 = c.in-Some.ensures.some in
    let first = ap (λ l. first_from ask_cmp ((c.args.peer, l), (0, 0)) rows) (sym one)
    ∙ sym c.in-Some-first_from.ensures in
    let other = are_other _ c.args.peer c.ne.result c.ne.ensures c.if-ne.true in
    rw (← c.self.view_is) (other_asked rows c.self.invariant c.args.peer _ first other)

-- else it is the lowest
pub returns : goal.returns
returns c =
    let rows = c.self.inside.asks.rows in
    let one : c.in-Some.least ≡ 1 = c.in-Some.ensures.some in
    let first = ap (λ l. first_from ask_cmp ((c.args.peer, l), (0, 0)) rows) (sym one)
    ∙ sym c.in-Some-first_from.ensures in
    let same = are_same _ c.args.peer c.ne.result c.ne.ensures c.if-ne.false in
    (same, rw (← c.self.view_is) (lowest_asked rows c.self.invariant c.args.peer _ first same))
