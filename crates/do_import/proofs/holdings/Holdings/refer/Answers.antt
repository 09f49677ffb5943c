use Rattle.do_import.proofs.holdings.Holdings.refer.Goals as goal
use Rattle.std.specs.FinMap as map
use Rattle.std.proofs.Common.{ap, arith, min, subst, sym, ◌-◌}
use Rattle.do_export.{specs.Counts.IsPositive, proofs.Counting.positive-raised}
use Rattle.do_import.{specs.Held.IsThread, proofs.{Threads.refer_threaded, Rooms.one_off}}

-- the thread is right without an object that is used
pub invariant_of-self : goal.invariant_of-self
invariant_of-self c = record {
  threads = subst (λ m. IsThread c.self.inside.received.counts m c.remove.new.self.rows)
      (sym c.name.ensures.counts)
      (refer_threaded _ _ c.self.inside.thread.rows c.self.invariant.threads _ _ _
      c.remove.ensures.after);
  room = omega (arith, c.self.invariant.room, c.remove.ensures.capacity);
  used = subst IsPositive (sym c.name.ensures.counts)
      (positive-raised _ _ _ c.self.invariant.used);
}

-- the room for one use is taken
pub returns-clause-spare : goal.returns-clause-spare
returns-clause-spare c =
    rw (← c.self.view_is) (one_off _ _ _ c.name.ensures.spare)

-- and no place
pub returns-clause-places : goal.returns-clause-places
returns-clause-places c =
    rw (← c.self.view_is)
    (ap (λ k. min c.self.inside.received.spare (k - map.len c.self.inside.received.counts))
    c.remove.ensures.capacity)
