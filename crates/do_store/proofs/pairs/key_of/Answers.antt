use Rattle.do_store.proofs.pairs.key_of.Goals as goal
use Rattle.std.proofs.Common.{◌≡◌, ℕ, ◌+◌, ◌-◌, ◌/◌, ◌<◌, ◌≤◌, List, get_or, length, arith, ap, ◌∙◌}
use Rattle.std.proofs.{Common.{inl, inr}, lemmas.{Bool.cases_eq, List.get_or_default}}
use Rattle.do_store.specs.{Listing.{Rising, pair_serial}, declared.object.Pair.Pair}
use Rattle.do_store.proofs.Listed.{rising-lt}

-- those up to a place below are below, and those from a place above are above
up_to : (pairs : List Pair) (top m n : ℕ) (d : Pair) → Rising pair_serial 0 pairs top
    → m < length pairs → (get_or pairs m d).serial < n → (j : ℕ) (e : Pair) → j < m + 1
    → (get_or pairs j e).serial < n
up_to pairs top m n d rising within below j e before =
    elim (cases_eq j m) [
      | inl same ↦ let is : (get_or pairs j e).serial ≡ (get_or pairs m d).serial = at_same same in
          omega arith
      | inr other ↦ let s = rising-lt pair_serial 0 top pairs j m e d rising (omega arith) within in
          omega arith
    ]
  where
    at_same : j ≡ m → (get_or pairs j e).serial ≡ (get_or pairs m d).serial
    at_same same = ap (λ i. (get_or pairs i e).serial) same
        ∙ ap (λ (p : Pair). p.serial) (get_or_default pairs m e d within)

from_on : (pairs : List Pair) (top m n : ℕ) (d : Pair) → Rising pair_serial 0 pairs top
    → m < length pairs → n < (get_or pairs m d).serial → (j : ℕ) (e : Pair) → m ≤ j
    → j < length pairs → n < (get_or pairs j e).serial
from_on pairs top m n d rising within above j e after inside =
    elim (cases_eq j m) [
      | inl same ↦ let is : (get_or pairs j e).serial ≡ (get_or pairs m d).serial =
          ap (λ i. (get_or pairs i e).serial) same
          ∙ ap (λ (p : Pair). p.serial) (get_or_default pairs m e d within) in omega arith
      | inr other ↦ let s = rising-lt pair_serial 0 top pairs m j d e rising (omega arith) inside in
          omega arith
    ]

pub loop-low-preserved-then-pair-serial-2 : goal.loop-low-preserved-then-pair-serial-2
loop-low-preserved-then-pair-serial-2 c =
    let w = c.loop-low.invariant.within in
    record {
      within = (omega (arith, w), w.1);
      below = λ top rising.
          up_to c.args.pairs.now top (c.loop-low.low + (c.loop-low.high - c.loop-low.low) / 2)
          c.args.serial _ rising (omega (arith, w)) c.if-pair-serial-2.true;
      above = c.loop-low.invariant.above;
    }

pub loop-low-preserved : goal.loop-low-preserved
loop-low-preserved c =
    let w = c.loop-low.invariant.within in
    record {
      within = (omega (arith, w), omega (arith, w));
      below = c.loop-low.invariant.below;
      above = λ top rising.
          from_on c.args.pairs.now top (c.loop-low.low + (c.loop-low.high - c.loop-low.low) / 2)
          c.args.serial (record { serial = 0; key = 0 }) rising (omega (arith, w))
          (omega (arith, c.if-pair-serial.false, c.if-pair-serial-2.false));
    }
