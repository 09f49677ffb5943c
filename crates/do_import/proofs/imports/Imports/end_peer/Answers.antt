use Rattle.do_import.proofs.imports.Imports.end_peer.Goals as goal
use Rattle.do_import.proofs.{AskCounts.{ended_numbered, lends_ended}, KeptClasses.home_classes}

-- the objects of the peer and the lends to it are counted no more
pub invariant_of-self : goal.invariant_of-self
invariant_of-self c =
    rw (
      c.end_peer-2.ensures.received,
      c.take_lends_off.ensures.received,
      c.take_lends_off.ensures.named,
      c.port-borrower.ensures.value,
      c.end_peer.ensures.lends,
      c.end_peer.ensures.next,
      c.end_home.ensures.rows,
    )
    (record {
      known = home_classes _ _ _ c.self.invariant.known c.args.peer;
      counts = c.self.invariant.counts;
      names = lends_ended _ _ _ c.self.invariant.names c.args.peer;
      numbers = ended_numbered _ _ c.self.invariant.numbers c.args.peer;
    })
