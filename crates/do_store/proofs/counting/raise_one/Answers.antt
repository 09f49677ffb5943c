use Rattle.do_store.proofs.counting.raise_one.Goals as goal
use Rattle.std.proofs.Common.{◌≡◌, ◌+◌, Some, refl, arith, sym}
use Rattle.do_store.{specs.Objects.stored_at, proofs.Edits.{seen-same, split_at}}
use Rattle.do_store.proofs.{Ledger.{books-kept, wrote}, StepsInARow.{once_same, once_other}}

pub returns : goal.returns
returns c =
    let stored : stored_at c.args.table.now.objects c.args.serial ≡ Some c.in-Some.object.now =
    sym c.in-Some.ensures.value in
    let one = once_same c.args.serial in
    record {
      books = λ queue p p' b bound is.
          let counted = b.counted c.args.serial c.in-Some.object.now stored in
          let below = bound c.args.serial (omega (arith, one)) in
          let sum = is c.args.serial in
          let more : c.saturating_add-more.result ≡ c.in-Some.object.now.named + 1 =
          omega (arith, c.saturating_add-more.ensures) in
          rw (c.set_counts.ensures.objects, c.set_counts.ensures.spare)
          (books-kept c.args.port c.args.table.now.next c.args.table.now.objects
          c.args.table.now.spare queue p p' c.args.serial
          c.in-Some.object.now.held c.saturating_add-more.result c.in-Some.object.now.waiting
          c.in-Some.object.now b c.in-Some.ensures.rising stored refl (omega arith)
          (λ k differs. let e = is k in let f = once_other c.args.serial k differs in omega arith)
          (λ none unnamed. absurd (omega arith)));
      seen = rw c.set_counts.ensures.objects
          (seen-same c.args.table.now.objects c.args.serial c.in-Some.object.now
          (split_at 0 c.args.table.now.next c.args.table.now.objects c.args.serial
          c.in-Some.object.now c.in-Some.ensures.rising stored)
          (wrote c.in-Some.object.now.held c.saturating_add-more.result
          c.in-Some.object.now.waiting) refl);
      next = c.set_counts.ensures.next;
      spare = c.set_counts.ensures.spare;
    }
