-- How often slots and invocations name an object, and how many names there are in values.
use Rattle.std.specs.Prelude.{ℕ, ◌<◌, IsSome, Bool, not, ◌||◌, cond, eqb, List as Listed, sum}
use Rattle.std.specs.Prelude.{sum_by}
use Rattle.do_base.specs.{names.Names.ObjectName, declared.values.value.Value.{Value, fold-Value}}
use Rattle.do_base.specs.declared.values.value.Value.TheOpen.{Value-F}
use Rattle.do_behave.specs.declared.invocation.Invocation.{Invocation}
use Rattle.do_machine.specs.{Objects.object_at, State.stored, declared.node.Node.Node}
use Rattle.do_machine.specs.declared.node.Stored.{Stored}
use Rattle.do_store.specs.Names.{value_names, values_name}
use Rattle.do_stack.specs.Uses.{invocation_values}

-- how often a value names an object
abbrev pub value_of : Value → ObjectName → ℕ
value_of v o = value_names o.node o.serial v

-- how often values name an object
abbrev pub values_of : Listed Value → ObjectName → ℕ
values_of vs o = values_name o.node o.serial vs

-- how often invocations name an object: as their own, in a local or in an answer
abbrev pub stack_of : Listed Invocation → ObjectName → ℕ
stack_of stack o = sum_by (λ i. values_of (invocation_values i) o) stack

-- how often the slots of stored objects name an object
abbrev pub heap_of : Listed Stored → ObjectName → ℕ
heap_of heap o = sum_by (λ x. values_of x.slots o) heap

-- the names that are counted where values stand: of slots those of foreign objects alone, since the
-- slots' own names are counted with their objects
abbrev pub counted : Bool → ℕ → (ObjectName → ℕ) → ObjectName → ℕ
counted all port names o = cond (all || not (eqb o.node port)) (names o) 0

-- one level of a value, where the names inside are counted already
abbrev size_step : Value-F ℕ → ℕ
size_step (Value-F.Obj o) = 1
size_step (Value-F.List ns) = sum ns
size_step _ = 0

-- how many names of objects stand in a value
abbrev pub size_of : Value → ℕ
size_of = fold-Value ℕ size_step

-- how many names of objects stand in values
abbrev pub sizes_of : Listed Value → ℕ
sizes_of = sum_by size_of

-- each own object that is named is stored
abbrev pub AreStored : Node → (ObjectName → ℕ) → Type 0
AreStored n names =
    (serial : ℕ) → 0 < names (object_at n.port serial) → IsSome (stored serial n.heap)
