use Rattle.do_store.proofs.store.sweeping.next_idle.Goals as goal
use Rattle.std.proofs.Common.{◌≡◌, ◌≢◌, ℕ, false, List, [], Some, map, refl, arith, ap, sym, ◌∙◌}
use Rattle.std.proofs.Common.{subst}
use Rattle.do_store.specs.{Objects.stored_at, Names.{named_in, Stored, replaced, find_stored}}
use Rattle.do_store.specs.{Queue.Queue, Books.{Books, seen}}
use Rattle.do_store.proofs.{Edits.{seen-edit, seen-same, split_at, stored-serial}, Ledger.wrote}
use Rattle.do_store.proofs.QueueTurns.{Taken, books-passed, books-busy, books-removed, none_idle}
use Rattle.do_store.proofs.Turns.{find-seen}

pub loop-serial-preserved-in_default-get : goal.loop-serial-preserved-in_default-get
loop-serial-preserved-in_default-get c =
    let taken : Taken c.loop-serial.queue c.take.new.self c.in-Some.serial =
    record { serials = c.in-Some.ensures.0; spare = c.in-Some.ensures.1 } in
    record {
      books = λ port b. books-passed port _ _ _ _ (λ n. 0) c.in-Some.serial taken
          (sym c.in_default-get.ensures.value) (c.loop-serial.invariant.books port b);
      seen = c.loop-serial.invariant.seen;
      next = c.loop-serial.invariant.next;
      spare = c.loop-serial.invariant.spare;
    }

pub returns-then-idle-clause-books : goal.returns-then-idle-clause-books
returns-then-idle-clause-books c = λ port b0.
    let taken : Taken c.loop-serial.queue c.take.new.self c.in-Some.serial =
    record { serials = c.in-Some.ensures.0; spare = c.in-Some.ensures.1 } in
    let b = c.loop-serial.invariant.books port b0 in
    let o = c.in-Some-get.object.now in
    let stored : stored_at c.loop-serial.table.objects c.in-Some.serial ≡ Some o =
    sym c.in-Some-get.ensures.value in
    let facts = c.is_idle-idle.ensures.0 c.if-idle.true in
    let same = stored-serial c.loop-serial.table.objects c.in-Some.serial o stored in
    let counted = b.counted c.in-Some.serial o stored in
    let none : o.named ≡ 0 = facts.1 in
    rw (c.remove.ensures.taken, stored) (
      rw (c.remove.ensures.objects, c.remove.ensures.spare)
          (books-removed port c.loop-serial.table.next c.loop-serial.table.objects
          c.loop-serial.table.spare c.loop-serial.queue c.take.new.self c.in-Some.serial o taken
          c.in-Some-get.ensures.rising stored facts.0 facts.1 b),
      ap (map seen) c.remove.ensures.objects
          ∙ seen-edit c.loop-serial.table.objects c.in-Some.serial (λ x. []) (λ s. [])
          (λ x is. refl) 0 c.loop-serial.table.next c.in-Some-get.ensures.rising
          ∙ ap (replaced c.in-Some.serial (λ s. [])) c.loop-serial.invariant.seen
          ∙ ap (λ j. replaced j (λ s. []) (map seen c.args.table.now.objects)) (sym same),
      ap (λ l. find_stored l o.serial) (sym c.loop-serial.invariant.seen)
          ∙ ap (find_stored (map seen c.loop-serial.table.objects)) same
          ∙ find-seen c.loop-serial.table.objects c.in-Some.serial o stored,
      facts.0,
      ap (named_in port o.serial) (sym c.loop-serial.invariant.seen)
          ∙ ap (λ j. named_in port j (map seen c.loop-serial.table.objects)) same ∙ omega arith,
    )

pub loop-serial-preserved : goal.loop-serial-preserved
loop-serial-preserved c =
    let taken : Taken c.loop-serial.queue c.take.new.self c.in-Some.serial =
    record { serials = c.in-Some.ensures.0; spare = c.in-Some.ensures.1 } in
    let o = c.in-Some-get.object.now in
    let stored : stored_at c.loop-serial.table.objects c.in-Some.serial ≡ Some o =
    sym c.in-Some-get.ensures.value in
    record {
      books = λ port b. rw (c.set_counts.ensures.objects, c.set_counts.ensures.spare)
          (books-busy port c.loop-serial.table.next _ _ _ _ (λ n. 0) c.in-Some.serial o taken
          c.in-Some-get.ensures.rising stored
          (λ both. let yes = c.is_idle-idle.ensures.1 (both.0, both.1, refl) in let no =
          c.if-idle.false in absurd (cc)) (c.loop-serial.invariant.books port b));
      seen = ap (map seen) c.set_counts.ensures.objects
          ∙ seen-same c.loop-serial.table.objects c.in-Some.serial o
          (split_at 0 c.loop-serial.table.next c.loop-serial.table.objects c.in-Some.serial o
          c.in-Some-get.ensures.rising stored) (wrote o.held o.named false) refl
          ∙ c.loop-serial.invariant.seen;
      next = c.set_counts.ensures.next ∙ c.loop-serial.invariant.next;
      spare = c.set_counts.ensures.spare ∙ c.loop-serial.invariant.spare;
    }

pub returns-clause-books : goal.returns-clause-books
returns-clause-books c = λ port b0.
    let b = c.loop-serial.invariant.books port b0 in
    let e = c.in_default.ensures in
    let P : List Stored → Type 0 = λ l. (n : ℕ) (o : Stored) → find_stored l n ≡ Some o → o.held ≡ 0
    → named_in port n l ≢ 0 in
    let Q : Queue
    → Type 0 = λ q. Books port c.loop-serial.table.objects c.loop-serial.table.spare q
    (λ n. 0) in (
      subst Q (sym e.1) b,
      c.loop-serial.invariant.seen,
      subst P c.loop-serial.invariant.seen (none_idle port _ _ _ b e.0),
    )
