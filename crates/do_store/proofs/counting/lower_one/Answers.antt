use Rattle.do_store.proofs.counting.lower_one.Goals as goal
use Rattle.std.proofs.Common.{◌≡◌, true, [], ◌∷◌, Some, refl, arith, sym, ◌∙◌}
use Rattle.do_store.{specs.{Objects.stored_at, Names.Stored}, proofs.Edits.{seen-edit, seen-same}}
use Rattle.do_store.proofs.{Edits.split_at, Ledger.wrote, StepsInARow.{once_same, once_other}}

pub returns : goal.returns
returns c =
    let stored : stored_at c.args.table.now.objects c.args.serial ≡ Some c.in-Some.object.now =
    sym c.in-Some.ensures.value in
    let one = once_same c.args.serial in
    record {
      books = λ p p' b is.
          let counted = b.counted c.args.serial c.in-Some.object.now stored in
          let sum = is c.args.serial in
          c.settle.ensures.books c.args.port c.args.table.now.next p p' c.in-Some.object.now b
          c.in-Some.ensures.rising stored refl
          (omega (arith, c.saturating_sub-less.ensures))
          (λ k differs. let e = is k in let f = once_other c.args.serial k differs in omega arith);
      seen = c.settle.ensures.seen c.args.table.now.next c.in-Some.ensures.rising
          ∙ sym (seen-edit c.args.table.now.objects c.args.serial
          (wrote c.in-Some.object.now.held 0 true)
          (λ (s : Stored). record s { held = c.in-Some.object.now.held } ∷ [])
          (λ x is. refl) 0 c.args.table.now.next c.in-Some.ensures.rising)
          ∙ seen-same c.args.table.now.objects c.args.serial c.in-Some.object.now
          (split_at 0 c.args.table.now.next c.args.table.now.objects c.args.serial
          c.in-Some.object.now c.in-Some.ensures.rising stored)
          (wrote c.in-Some.object.now.held 0 true) refl;
      next = c.settle.ensures.next;
      spare = c.settle.ensures.spare;
    }
