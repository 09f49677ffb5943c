-- Which act a change is.
use Rattle.std.specs.Prelude.{◌≡◌, List, [], ◌∷◌, slice_set, IsSomeAnd}
use Rattle.do_base.specs.declared.values.value.Value.{Value}
use Rattle.do_behave.specs.{LongerList.{FitsIn, longer_at}, Steps.local}
use Rattle.do_behave.specs.declared.{invocation.Invocation.Invocation, act.Act.Act}
use Rattle.do_behave.specs.declared.{act.Act.TheVariants.Step, change.LocalSet.LocalSet}
use Rattle.do_behave.specs.declared.change.Change.{Change, TheVariants.{Local, Push, Goto, Slot}}
use Rattle.do_behave.specs.declared.change.Change.TheVariants.{Slots, Handler, Other}

-- locals after these are set, in order
abbrev pub with_set : List Value → List LocalSet → List Value
with_set locals [] = locals
with_set locals (s ∷ more) = with_set (slice_set locals s.local s.value) more

-- the act that a change of an invocation is
abbrev pub meaning : Invocation → Change → Act
meaning inv (Local into value pc) = Step pc (slice_set inv.locals into value) inv.handler []
meaning inv (Push list item weight pc) =
    Step pc (longer_at inv.locals list item) inv.handler []
meaning inv (Goto pc) = Step pc inv.locals inv.handler []
meaning inv (Slot slot value pc) =
    Step pc inv.locals inv.handler (record { slot = slot; value = value } ∷ [])
meaning inv (Slots sets handler writes pc) = Step pc (with_set inv.locals sets) handler writes
meaning inv (Handler handler pc) = Step pc inv.locals handler []
meaning inv (Other act) = act

-- a push is to a list that keeps the limits with the item, and then has this weight
abbrev pub IsFitting : Invocation → Change → Type 0
IsFitting inv (Push list item weight pc) =
    IsSomeAnd (local inv list) (λ value. FitsIn value item weight)
IsFitting inv _ = Unit {0}

-- a change of an invocation that is this act
pub record Means (inv : Invocation) (change : Change) (act : Act) : Type 0 where
  pub is : meaning inv change ≡ act
  pub fits : IsFitting inv change
