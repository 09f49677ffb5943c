use Rattle.do_import.proofs.imports.Imports.end_ask.Goals as goal
use Rattle.do_import.proofs.{KeptClasses.ended_classes, AskCounts.end_counted}

-- an ask that is over is counted no more, and the class stays of what is known
pub invariant_of-self : goal.invariant_of-self
invariant_of-self c =
    let now = end_counted _ _ _ _
    (record { counts = c.self.invariant.counts; names = c.self.invariant.names })
    c.args.oid c.args.token c.end.result _ (rw (← c.self.view_is) at c.requires)
    c.end.ensures.which c.end.ensures.asks in
    rw (
      c.leave.ensures.rows,
      c.stays-stays.ensures,
      c.take_off.ensures.received,
      c.take_off-2.ensures.rows,
      c.take_off-3.ensures.rows,
    )
    (record {
      known = ended_classes _ _ _ c.self.invariant.known c.args.oid;
      counts = now.counts;
      names = now.names;
      numbers = c.self.invariant.numbers;
    })
