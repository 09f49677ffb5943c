-- What a change takes out of an invocation, and what it leaves to do.
use Rattle.do_behave.specs.declared.change.Change.TheVariants as changes
use Rattle.do_behave.specs.declared.exchanged.Left.TheVariants as lefts
use Rattle.do_behave.specs.declared.exchanged.Taken.TheVariants as takens
use Rattle.std.specs.Prelude.{Bool, true, false, List, [], ◌∷◌, Option, Some, None, slice_set}
use Rattle.std.specs.Prelude.{get_or}
use Rattle.do_base.specs.declared.values.value.Value.{Value}
use Rattle.do_behave.specs.{InPlace.written, declared.act.Act.{Act, TheVariants.Step}}
use Rattle.do_behave.specs.declared.{change.{Change.Change, LocalSet.LocalSet}, exchanged.Left.Left}
use Rattle.do_behave.specs.declared.exchanged.Taken.{Taken}

-- the values that were taken out of locals
abbrev pub taken : Taken → List Value
taken takens.Nothing = []
taken (takens.One value) = value ∷ []
taken (takens.Many values) = values
taken (takens.All locals) = locals

-- what each of these sets takes out of its local, in order; the value itself where there is no such
-- local
abbrev pub set_out : List Value → List LocalSet → List Value
set_out locals [] = []
set_out locals (s ∷ more) =
    get_or locals s.local s.value ∷ set_out (slice_set locals s.local s.value) more

-- the values that an act takes out of locals
abbrev pub act_taken : List Value → Act → List Value
act_taken locals (Step pc after handler writes) = locals
act_taken locals _ = []

-- the values that a change takes out of locals
abbrev pub taken_by : List Value → Change → List Value
taken_by locals (changes.Local into value pc) = get_or locals into value ∷ []
taken_by locals (changes.Slots sets handler writes pc) = set_out locals sets
taken_by locals (changes.Other act) = act_taken locals act
taken_by locals _ = []

-- a change that may take memory: the list that is pushed to grows, and the values that several sets
-- take out are kept in a list
abbrev pub takes_memory : Change → Bool
takes_memory (changes.Push list item weight pc) = true
takes_memory (changes.Slots sets handler writes pc) = true
takes_memory _ = false

-- the slots of the object once what is left was done
abbrev pub slots_after : Left → List Value → List Value
slots_after (lefts.Slot slot value) slots =
    written slots (record { slot = slot; value = value } ∷ [])
slots_after (lefts.Slots writes) slots = written slots writes
slots_after _ slots = slots

-- the act that is left to do
abbrev pub act_left : Left → Option Act
act_left (lefts.Other act) = Some act
act_left _ = None
