-- The names that a peer's frames named lately, however they are held.
use Rattle.std.specs.Prelude.{List}
use Rattle.do_coder.specs.declared.recent.pair.Pair.{Pair}
use Rattle.do_streams.specs.declared.names.Held.{Held, TheVariants.{Listed, Table}}

-- the pairs that are held
abbrev pub pairs_of : Held → List Pair
pairs_of (Table table) = table
pairs_of (Listed pairs) = pairs
