use Rattle.do_store.proofs.store.sweeping.next_idle.Given as goal
use Rattle.std.proofs.Common.{◌≡◌, ℕ, map, length}
use Rattle.do_store.specs.Books.{Books, seen}

abbrev pub invariant-loop-serial : goal.invariant-loop-serial
invariant-loop-serial l = record {
  books : (port : ℕ)
      → Books port l.initial.table.objects l.initial.table.spare l.initial.queue (λ n. 0)
      → Books port l.table.objects l.table.spare l.queue (λ n. 0);
  seen : map seen l.table.objects ≡ map seen l.initial.table.objects;
  next : l.table.next ≡ l.initial.table.next;
  spare : l.table.spare ≡ l.initial.table.spare;
}

abbrev pub decreases-loop-serial : goal.decreases-loop-serial
decreases-loop-serial l = length l.queue.serials
