use Rattle.do_import.proofs.imports.Imports.granted.Goals as goal
use Rattle.std.proofs.Common.{is_some, sym, ap}
use Rattle.do_import.proofs.{KeptClasses.granted_classes, AskCounts.end_counted}

-- an ask that was granted is counted no more, and the class of its object stays
pub invariant_of-self : goal.invariant_of-self
invariant_of-self c =
    let now = end_counted _ _ _ _
    (record { counts = c.self.invariant.counts; names = c.self.invariant.names })
    c.args.oid c.args.token c.end.result _ (ap is_some (sym c.in-Some.ensures))
    c.end.ensures.which c.end.ensures.asks in
    rw (
      c.got.ensures.received,
      c.take_off.ensures.received,
      c.take_off-2.ensures.rows,
      c.take_off-3.ensures.rows,
      c.keep.ensures.rows,
    )
    (record {
      known = granted_classes _ _ _ c.self.invariant.known c.args.oid _;
      counts = now.counts;
      names = now.names;
      numbers = c.self.invariant.numbers;
    })
