-- What a slot may hold.
use Rattle.std.specs.Prelude.{ℕ, ◌+◌, ◌<◌, ◌^◌}
use Rattle.do_base.specs.declared.values.value.Value.{Value}
use Rattle.do_store.specs.Names.{Objects, AllStored, named_in, value_names}

-- each own object that a value names is stored, and can be counted once more
pub record MayHold (s : Objects) (value : Value) : Type 0 where
  pub stored : AllStored s.node s.objects (λ n. value_names s.node n value)
  pub bound : (n : ℕ) → 0 < value_names s.node n value
      → named_in s.node n s.objects + value_names s.node n value < 2 ^ 64
