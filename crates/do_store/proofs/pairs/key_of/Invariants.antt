use Rattle.do_store.proofs.pairs.key_of.Given as goal
use Rattle.std.proofs.Common.{ℕ, ◌-◌, ◌<◌, ◌≤◌, get_or, length}
use Rattle.do_store.specs.{Listing.{Rising, pair_serial}, declared.object.Pair.Pair}

abbrev pub invariant-loop-low : goal.invariant-loop-low
invariant-loop-low l = record {
  within : (l.low ≤ l.high) × (l.high ≤ length l.pairs);
  below : (top : ℕ) → Rising pair_serial 0 l.pairs top → (j : ℕ) (d : Pair) → j < l.low
      → (get_or l.pairs j d).serial < l.serial;
  above : (top : ℕ) → Rising pair_serial 0 l.pairs top → (j : ℕ) (d : Pair) → l.high ≤ j
      → j < length l.pairs → l.serial < (get_or l.pairs j d).serial;
}

abbrev pub decreases-loop-low : goal.decreases-loop-low
decreases-loop-low l = l.high - l.low
