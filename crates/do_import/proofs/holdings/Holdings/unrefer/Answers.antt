use Rattle.std.specs.FinMap as map
use Rattle.do_import.proofs.holdings.Holdings.unrefer.Goals as goal
use Rattle.std.proofs.Common.{◌≡◌, false, not, sym, ap, subst, ◌∙◌, ◌&&◌, arith, min, ◌-◌}
use Rattle.do_export.{specs.Counts.IsPositive, proofs.Counting.positive-lowered}
use Rattle.do_import.specs.Held.{IsThread, may_leave}
use Rattle.do_import.proofs.Threads.{unrefer_threaded, still_threaded, lowered_some, lowered_last}
use Rattle.do_import.proofs.{Threads.{used_some, and_false}, Rooms.{is_shorter, room_or}}

-- where an object is still used, the thread stays as it is
pub invariant_of-self : goal.invariant_of-self
invariant_of-self c =
    let which = c.in-Ok.ensures.which in
    let is = lowered_some _ _ _ _ which.0 c.if-left-gt0.true in
    record {
      threads = subst (λ m. IsThread c.self.inside.received.counts m c.self.inside.thread.rows)
          (sym (which.1 ∙ is))
          (still_threaded _ _ c.self.inside.thread.rows c.self.invariant.threads _ _
          (used_some _ _ _ _ which.0));
      room = c.self.invariant.room;
      used = subst IsPositive (sym which.1)
          (positive-lowered _ _ _ (omega (arith, which.0)) c.self.invariant.used);
    }

-- the thread has room for an object that was received
pub thread_unless-requires : goal.thread_unless-requires
thread_unless-requires c =
    let received = c.self.inside.received.counts in
    let used = used_some c.self.inside.uses.counts c.oid.inside.node c.oid.inside.serial _
    c.in-Ok.ensures.which.0 in
    let stays : may_leave received c.self.inside.uses.counts
    (c.oid.inside.node, c.oid.inside.serial) ≡ false =
    ap (λ b. map.contains_key received (c.oid.inside.node, c.oid.inside.serial) && not b) used
    ∙ and_false _ in
    record {
      room = room_or c.has-gone.result _ (λ there.
          let less = is_shorter received c.self.inside.uses.counts c.self.inside.thread.rows
          c.self.invariant.threads (c.oid.inside.node, c.oid.inside.serial) stays
          (sym c.has-gone.ensures ∙ there) in
          omega (arith, less, c.self.invariant.room));
    }

-- and is right with one whose last use is gone
pub invariant_of-self-2 : goal.invariant_of-self-2
invariant_of-self-2 c =
    let which = c.in-Ok.ensures.which in
    let is = lowered_last _ _ _ _ which.0 (omega (arith, c.if-left-gt0.false)) in
    record {
      threads = subst
          (λ m. IsThread c.self.inside.received.counts m c.thread_unless.new.thread.rows)
          (sym (which.1 ∙ is))
          (unrefer_threaded _ _ c.self.inside.thread.rows c.self.invariant.threads _ _ _
          (ap not c.has-gone.ensures) c.thread_unless.ensures.rows);
      room = omega (arith, c.self.invariant.room, c.thread_unless.ensures.capacity);
      used = subst IsPositive (sym which.1)
          (positive-lowered _ _ _ (omega (arith, which.0)) c.self.invariant.used);
    }

-- no room is taken
pub returns-clause-spare : goal.returns-clause-spare
returns-clause-spare c =
    rw (← c.self.view_is) c.in-Ok.ensures.spare

-- and no place
pub returns-clause-places : goal.returns-clause-places
returns-clause-places c =
    rw (← c.self.view_is)
    (ap (λ k. min c.self.inside.received.spare (k - map.len c.self.inside.received.counts))
    c.thread_unless.ensures.capacity)
