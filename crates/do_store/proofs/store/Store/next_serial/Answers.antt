use Rattle.do_store.proofs.store.Store.next_serial.Goals as goal
use Rattle.std.proofs.{Common.arith, lemmas.List.length-map}
use Rattle.do_store.{specs.{Listing.object_serial, Books.seen}, proofs.Listed.rising-many}

pub returns-clause-many : goal.returns-clause-many
returns-clause-many c =
    let table = c.self.inside.table in
    let many = rising-many object_serial 0 table.next table.objects c.next.ensures.rising in
    let same = length-map table.objects seen in
    rw (← c.self.view_is) (omega (arith, many, same))
