-- The limits on values as one test.
use Rattle.std.specs.Prelude.{Bool, ◌&&◌, nat_le}
use Rattle.do_base.specs.{values.Values.weight_of, declared.values.value.Value.Value}
use Rattle.do_behave.specs.Limits.{has_small_parts, nests_within}

-- a value that keeps each limit on values which an act makes
abbrev pub is_limited : Value → Bool
is_limited v = has_small_parts v && (nests_within v 8 && nat_le (weight_of v) 2097152)
