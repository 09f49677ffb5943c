use Rattle.std.specs.FinMap as map
use Rattle.do_import.proofs.holdings.Holdings.end_peer.Goals as goal
use Rattle.std.proofs.{Common.{◌==◌, not, rules, arith, sym, subst, ap}, lemmas.Fn.filter_same}
use Rattle.do_import.specs.Held.{IsThread}
use Rattle.do_import.proofs.{Threads.ended_threaded, Rooms.{len_others, min_keeps}}

-- the thread is right, and has its room, without the objects of the home
pub invariant_of-self : goal.invariant_of-self
invariant_of-self c =
    let rows = filter_same _ (λ row. not (row.0.0 == c.args.home)) _
    (λ x b f called. search rules) _ _ c.retain.ensures.filtered in
    let fewer = len_others c.self.inside.received.counts c.args.home in
    let is = ap map.len c.end_peer.ensures.counts in
    record {
      threads = subst (λ m. IsThread m c.self.inside.uses.counts c.retain.new.self.rows)
          (sym c.end_peer.ensures.counts)
          (ended_threaded _ _ c.self.inside.thread.rows _ c.args.home c.self.invariant.threads
          rows);
      room = omega (arith, c.self.invariant.room, c.retain.ensures.capacity, fewer, is);
      used = c.self.invariant.used;
    }

-- no place is taken
pub returns-clause-places : goal.returns-clause-places
returns-clause-places c =
    let fewer = len_others c.self.inside.received.counts c.args.home in
    let is = ap map.len c.end_peer.ensures.counts in
    rw (← c.self.view_is)
    (min_keeps _ _ _ _ c.end_peer.ensures.spare
    (omega (arith, c.retain.ensures.capacity, fewer, is)))
