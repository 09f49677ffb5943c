-- Functions of a value, each by what one level gives.
use Rattle.std.specs.{Prelude.{ℕ, List, [], ◌∷◌, ◌+◌, length, sum}, List.flat_map}
use Rattle.do_base.specs.declared.{names.node.Oid.Oid, values.value.Value.{Value, fold-Value}}
use Rattle.do_base.specs.declared.values.value.Value.TheOpen.{Value-F}

-- one level of a value, where the values inside are weighed already
abbrev pub weight_step : Value-F ℕ → ℕ
weight_step Value-F.Nil = 1
weight_step (Value-F.Num n) = 16
weight_step (Value-F.Text s) = 16 + length s
weight_step (Value-F.Obj o) = 48
weight_step (Value-F.List ws) = 16 + sum ws

-- what a value weighs
abbrev pub weight_of : Value → ℕ
weight_of = fold-Value ℕ weight_step

-- one level of a value, where the objects inside are listed already
abbrev pub objects_step : Value-F (List Oid) → List Oid
objects_step (Value-F.Obj o) = o ∷ []
objects_step (Value-F.List oss) = flat_map (λ os. os) oss
objects_step _ = []

-- the objects in a value, from left to right
abbrev pub objects_of : Value → List Oid
objects_of = fold-Value (List Oid) objects_step
