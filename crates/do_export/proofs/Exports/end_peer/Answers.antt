use Rattle.do_export.proofs.Exports.end_peer.Goals as goal
use Rattle.std.proofs.{Common.{◌==◌, not, rules}, lemmas.Fn.filter_same}
use Rattle.do_export.proofs.{Order.others_are, Positive.entries_others}

-- the rows of other peers are still in their order, and count something
pub invariant_of-self : goal.invariant_of-self
invariant_of-self c =
    let rows = filter_same _ (λ row. not (row.0.0 == c.port-port.result)) _
    (λ x b f called. search rules) _ _ c.retain.ensures.filtered in
    entries_others _ _ c.self.invariant _ _ c.port-port.ensures.value rows

-- the entries of other peers are left
pub returns-clause-counts : goal.returns-clause-counts
returns-clause-counts c =
    let rows = filter_same _ (λ row. not (row.0.0 == c.port-port.result)) _
    (λ x b f called. search rules) _ _ c.retain.ensures.filtered in
    rw (← c.self.view_is)
    (others_are _ _ c.self.invariant.sorted _ _ c.port-port.ensures.value rows).1
