-- The parts of a value.
use Rattle.std.specs.{Prelude.{◌≤◌, ◌⊎◌, List as Listed}, List.Contains}
use Rattle.do_base.specs.{values.Values.weight_of, declared.values.value.Value.{Value, List}}

-- a value stands in itself, and in a list in whose items it stands
pub data StandsIn (v : Value) : Value → Type 0 where
  itself : StandsIn v v
  inside : (vs : Listed Value) (item : Value) → Contains vs item → StandsIn v item
      → StandsIn v (List vs)

-- a value stands in one of these
pub record IsFoundIn (shown : Listed Value) (v : Value) : Type 0 where
  pub whole : Value
  pub there : Contains shown whole
  pub stands : StandsIn v whole

-- a value weighs no more than one may that is made, or it was found in one of these
abbrev pub WeighsWithin : Listed Value → Value → Type 0
WeighsWithin shown v = (weight_of v ≤ 2097152) ⊎ IsFoundIn shown v
