use Rattle.do_import.proofs.imports.Imports.ask.Goals as goal
use Rattle.do_import.proofs.{KeptClasses.asked_classes, AskCounts.ask_counted}

-- a new ask is counted by its object, whose class is kept
pub invariant_of-self-2 : goal.invariant_of-self-2
invariant_of-self-2 c =
    let now = ask_counted _ _ _ _
    (record { counts = c.self.invariant.counts; names = c.self.invariant.names })
    c.args.oid c.args.token c.args.class c.ask.result _ c.if-not-ask.false c.ask.ensures.which
    c.ask.ensures.asks in
    rw (c.refer.ensures.received, c.add.ensures.rows, c.add-2.ensures.rows, c.keep.ensures.rows)
    (record {
      known = asked_classes _ _ _ c.self.invariant.known c.args.oid c.args.class;
      counts = now.counts;
      names = now.names;
      numbers = c.self.invariant.numbers;
    })
