-- The table of recent names while a message is read or written, as a log and an index of it.
use Rattle.std.specs.Prelude.{◌≡◌, ◌⊎◌, ℕ, ◌<◌, ◌≤◌, List, length, drop, take, get_or, Some}
use Rattle.std.specs.{declared.cmp.Ordering.Ordering, Ordering.{nat_cmp, ordering_then}}
use Rattle.std.specs.BTreeMap.{BTreeMap, get}
use Rattle.do_coder.specs.declared.recent.{pair.Pair.Pair, index.Places.Places}
use Rattle.do_coder.specs.Recent.{pair, IsRecent}

-- the table as it is, and as it was when it was last kept
pub record Tables : Type 0 where
  pub now : List Pair
  pub kept : List Pair

-- a log of pairs of which the table is a part to the end, and what was kept another part
pub record HasTables (log : List Pair) (start kept_start kept_end : ℕ) : Type 0 where
  pub begins : start ≤ length log
  pub now : IsRecent (drop start log)
  pub ends : kept_end ≤ length log
  pub order : kept_start ≤ kept_end
  pub kept : IsRecent (drop kept_start (take kept_end log))

-- ---- the index, with two places for each pair

-- by serial, and then by class
abbrev pub pair_cmp : Pair → Pair → Ordering
pair_cmp p q = ordering_then (nat_cmp p.serial q.serial) (nat_cmp p.class.0 q.class.0)

-- the pair at a place is found there
pub record IsFound (log : List Pair) (index : BTreeMap Pair Places) (k : ℕ) : Type 0 where
  pub places : Places
  pub stored : get pair_cmp index (get_or log k (pair 0 0)) ≡ Some places
  pub here : (places.kept ≡ k) ⊎ (places.now ≡ k)

-- each pair from one place up to another is found
abbrev pub AreFound : List Pair → BTreeMap Pair Places → ℕ → ℕ → Type 0
AreFound log index from to = (k : ℕ) → from ≤ k → k < to → IsFound log index k

-- the pair stands at a place, not before another
pub record StandsAt (log : List Pair) (start at : ℕ) (p : Pair) : Type 0 where
  pub from : start ≤ at
  pub inside : at < length log
  pub same : get_or log at (pair 0 0) ≡ p

-- a log in which the pairs of both tables are found
pub record IsNameLog (log : List Pair) (start kept_start kept_end : ℕ)
    (index : BTreeMap Pair Places) : Type 0 where
  pub tables : HasTables log start kept_start kept_end
  pub now_found : AreFound log index start (length log)
  pub kept_found : AreFound log index kept_start kept_end
