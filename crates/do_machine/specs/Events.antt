-- The values that an event may bring.
use Rattle.std.specs.Prelude.{[], ◌≡◌}
use Rattle.do_packet.specs.Packing.{most_weight}
use Rattle.do_base.specs.{values.Values.objects_of, declared.values.value.Value.Value}
use Rattle.do_behave.specs.Limits.{IsLimited}

-- a value without objects, within the limits
pub record IsPlain (v : Value) : Type 0 where
  pub plain : objects_of v ≡ []
  pub limited : IsLimited most_weight v
