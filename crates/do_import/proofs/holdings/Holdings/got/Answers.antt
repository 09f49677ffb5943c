use Rattle.std.specs.FinMap as map
use Rattle.do_import.proofs.holdings.Holdings.got.Goals as goal
use Rattle.std.proofs.Common.{sym, ap, subst, arith, inr}
use Rattle.do_import.{specs.Held.IsThread, proofs.Threads.got_kept}
use Rattle.do_import.proofs.Rooms.{not_longer, len_named, room_of, one_off, min_falls}

-- the thread has room for one more
pub thread_unless-requires : goal.thread_unless-requires
thread_unless-requires c =
    let old = c.self.invariant in
    let room = room_of _ _ _ (rw (← c.self.view_is) at c.requires.room) in
    record { room = inr (omega (arith, room, not_longer _ _ _ old.threads)) }

-- the thread is right, and has its room, with one more that was received
pub invariant_of-self : goal.invariant_of-self
invariant_of-self c =
    let old = c.self.invariant in
    let room = room_of _ _ _ (rw (← c.self.view_is) at c.requires.room) in
    let kept = rw (← c.self.view_is) at c.is_kept-kept.ensures in
    let more = len_named c.self.inside.received.counts c.oid.inside.node c.oid.inside.serial in
    let is = ap map.len c.name.ensures.counts in
    record {
      threads = subst (λ m. IsThread m c.self.inside.uses.counts c.thread_unless.new.thread.rows)
          (sym c.name.ensures.counts)
          (got_kept _ _ c.self.inside.thread.rows old.threads _ _ c.is_kept-kept.result _ kept
          c.thread_unless.ensures.rows);
      room = omega (arith, room, more, is, c.thread_unless.ensures.capacity);
      used = old.used;
    }

-- the place for one is taken at most
pub returns-clause-places : goal.returns-clause-places
returns-clause-places c =
    let more = len_named c.self.inside.received.counts c.oid.inside.node c.oid.inside.serial in
    let is = ap map.len c.name.ensures.counts in
    rw (← c.self.view_is)
    (min_falls _ _ _ _ (one_off _ _ _ c.name.ensures.spare)
    (omega (arith, more, is, c.thread_unless.ensures.capacity)))
