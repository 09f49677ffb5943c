use Rattle.do_store.proofs.table.Table.get.Goals as goal
use Rattle.std.proofs.Common.{sym, ◌∙◌}
use Rattle.slab.specs.Slab.{get}
use Rattle.do_store.proofs.{FoundKey.{FoundAt, stored-at_key}, Listed.rising-listed}

pub returns-clause-value : goal.returns-clause-value
returns-clause-value c =
    let fact = c.in_ok-key.ensures c.self.inside.next c.self.invariant.rising in
    let f : FoundAt (get c.self.inside.slots) c.self.inside.pairs.items c.args.serial
    c.in_ok-key.key =
    record { member = fact.0; object = fact.1; found = fact.2; same = fact.3 } in
    rw (← c.self.view_is)
    (c.get.ensures
    ∙ sym (stored-at_key (get c.self.inside.slots) c.self.inside.next c.self.inside.pairs.items
    c.args.serial c.in_ok-key.key c.self.invariant.rising f))

pub returns-clause-rising : goal.returns-clause-rising
returns-clause-rising c =
    rw (← c.self.view_is)
    (rising-listed (get c.self.inside.slots) 0 c.self.inside.next c.self.inside.pairs.items
    c.self.invariant.rising)

pub returns-in_err-key-clause-rising : goal.returns-in_err-key-clause-rising
returns-in_err-key-clause-rising c =
    rw (← c.self.view_is)
    (rising-listed (get c.self.inside.slots) 0 c.self.inside.next c.self.inside.pairs.items
    c.self.invariant.rising)
