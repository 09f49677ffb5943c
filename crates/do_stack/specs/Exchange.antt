-- What a change puts into an invocation, and what is then used no more often for it.
use Rattle.std.specs.Prelude.{Bool, false, ◌&&◌, List, [], ◌∷◌, Option, Some, None, map, slice_get}
use Rattle.do_base.specs.{names.Names.ObjectName, declared.values.value.Value.Value}
pub use Rattle.do_behave.specs.Exchange.{taken, set_out, act_taken, taken_by, takes_memory}
pub use Rattle.do_behave.specs.Exchange.{slots_after, act_left}
use Rattle.do_behave.specs.declared.change.Change.TheVariants as changes
use Rattle.do_behave.specs.declared.{act.Act.{Act, TheVariants.Step}, change.Change.Change}
use Rattle.do_behave.specs.declared.invocation.Invocation.{Invocation}
use Rattle.do_stack.specs.Uses.{names}

-- the values that an act puts into locals
abbrev pub act_values : Act → List Value
act_values (Step pc locals handler writes) = locals
act_values _ = []

-- the values that a change puts into locals
abbrev pub given : Change → List Value
given (changes.Local into value pc) = value ∷ []
given (changes.Push list item weight pc) = item ∷ []
given (changes.Slots sets handler writes pc) = map (λ s. s.value) sets
given (changes.Other act) = act_values act
given _ = []

-- there is a value, and it names an object
abbrev pub some_names : ObjectName → Option Value → Bool
some_names o None = false
some_names o (Some v) = names o v

-- an object is named by a pushed item and by the list before, which then still counts once
abbrev pub named_again : ObjectName → Invocation → Change → Bool
named_again o i (changes.Push list item weight pc) =
    some_names o (slice_get i.locals list) && names o item
named_again o i _ = false
