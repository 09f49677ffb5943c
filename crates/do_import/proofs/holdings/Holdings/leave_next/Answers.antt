use Rattle.std.specs.FinMap as map
use Rattle.do_import.proofs.holdings.Holdings.leave_next.Goals as goal
use Rattle.std.proofs.Common.{sym, ap, subst, arith}
use Rattle.do_import.specs.Held.{IsThread}
use Rattle.do_import.proofs.{Threads.leave_threaded, Rooms.{len_removed, min_keeps}}

-- the thread is right, and has its room, without the one that leaves
pub invariant_of-self : goal.invariant_of-self
invariant_of-self c =
    let fewer = len_removed c.self.inside.received.counts (c.oid.inside.node, c.oid.inside.serial)
    in
    let is = ap map.len c.forget.ensures.counts in
    record {
      threads = subst (λ m. IsThread m c.self.inside.uses.counts c.remove.new.self.rows)
          (sym c.forget.ensures.counts)
          (leave_threaded _ _ c.self.inside.thread.rows c.self.invariant.threads _ _
          c.remove.ensures.after);
      room = omega (arith, c.self.invariant.room, c.remove.ensures.capacity, fewer, is);
      used = c.self.invariant.used;
    }

-- no place is taken
pub returns-clause-places : goal.returns-clause-places
returns-clause-places c =
    let fewer = len_removed c.self.inside.received.counts (c.oid.inside.node, c.oid.inside.serial)
    in
    let is = ap map.len c.forget.ensures.counts in
    rw (← c.self.view_is)
    (min_keeps _ _ _ _ c.forget.ensures.spare
    (omega (arith, c.remove.ensures.capacity, fewer, is)))
