-- What a part has with its peers stays within bounds.
use Rattle.std.specs.FinMap as map
use Rattle.std.specs.Prelude.{◌≡◌, ◌≢◌, ℕ, ◌<◌, ◌≤◌, true}
use Rattle.do_export.specs.Counts.{count_of}
use Rattle.do_import.specs.Asked.{AskKey}
use Rattle.do_machine.specs.State.{is_open}
use Rattle.do_part.specs.{Seen.own_of, declared.part.Part.TheInside.Inside}

-- the end of each entry is open, no object was named or received more often than names were ever
-- counted, and what was received or asked for is not the node's own; it was lent by a node, whose
-- port is above 0
pub record AreLinked (i : Inside) : Type 0 where
  pub ends : (k : ℕ × ℕ) → map.contains_key i.exports.counts k ≡ true
      → is_open (own_of i).node k.0 ≡ true
  pub sent : (k : ℕ × ℕ) → count_of i.exports.counts k.0 k.1 ≤ i.holders.names
  pub got : (k : ℕ × ℕ) → count_of i.holders.imports.received k.0 k.1 ≤ i.holders.names
  pub held : (k : ℕ × ℕ) → map.contains_key i.holders.imports.received k ≡ true
      → k.0 ≢ i.holders.node
  pub asked : (k : AskKey) → map.contains_key i.holders.imports.asks k ≡ true
      → (k.0.0 ≢ i.holders.node) × (0 < k.0.1)
