use Rattle.do_document.proofs.slots.slots_of.Goals as goal
use Rattle.std.proofs.Common.{◌≡◌, ◌∙◌, ◌++◌, ◌∷◌, [], arith, ap, length, length-append, sym, true}
use Rattle.std.proofs.Common.{Bor, List, ℕ}
use Rattle.do_document.specs.{ClassFaults.is_new_slot, Classes.slot_of}
use Rattle.do_document.proofs.{Growing.made_more, Loops.slot_good}

pub loop-k-preserved : goal.loop-k-preserved
loop-k-preserved c =
    let is = sym c.in_ok-slot.ensures ∙ c.in-Some.is in
    let new : is_new_slot c.loop-k.slots c.in-Some.slot ≡ true =
    sym c.is_new.ensures ∙ c.if-is_new.true in
    let grown = c.in_ok-push-in-Some.ensures.ok in
    let count : length c.push.new.self ≡ length (c.loop-k.slots ++ c.in-Some.slot ∷ []) =
    ap length grown in
    record {
      faults = slot_good c.args.place (λ (t : Bor
          (List ℕ)). t.now) c.args.texts.now c.loop-k.k _ c.loop-k.slots
          c.in-Some.slot _ c.loop-k-test.true c.loop-k.invariant.faults c.loop-k.invariant.made is
          new;
      made = grown ∙ made_more slot_of (λ (t : Bor
          (List ℕ)). t.now) c.args.texts.now c.loop-k.k _ c.loop-k.slots
          c.in-Some.slot c.loop-k-test.true c.loop-k.invariant.made is;
      few = omega (
        arith,
        count,
        length-append c.loop-k.slots (c.in-Some.slot ∷ []),
        c.loop-k.invariant.few,
      );
    }
