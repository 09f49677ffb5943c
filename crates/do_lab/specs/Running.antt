-- Children that were given and were not waited for.
use Rattle.std.specs.Prelude.{◌≡◌, ◌≢◌, ℕ, ◌+◌, ◌≤◌, ◌⊎◌, List, [], ◌∷◌, Option, Some, None}
use Rattle.do_plan.specs.declared.plan.PlanLine.{PlanLine}
use Rattle.do_lab.specs.{declared.spawner.ChildId.ChildId, Told.{Spawned, Started}}
use Rattle.do_output.specs.Told.{TellsMore}
use Rattle.do_base.specs.outside.Causes.{Rose}
use Rattle.do_lab.specs.declared.children.ChildEnd.{ChildEnd, TheVariants.NotWaited}
use Rattle.do_lab.specs.Children.{line_words, number_of, starts_told, waits_told, AsMany, AllFit}
use Rattle.do_lab.specs.Children.{HaveEnded, HasChildCause, first_failed}

-- a child runs, where there is one
abbrev pub Runs : (ℕ → Type 0) → Option ChildId → Type 0
Runs is_running None = Unit {0}
Runs is_running (Some child) = is_running child.0

-- each of these children runs
abbrev pub AllRun : (ℕ → Type 0) → List (Option ChildId) → Type 0
AllRun is_running [] = Unit {0}
AllRun is_running (child ∷ children) = Runs is_running child × AllRun is_running children

-- a number is not that of this child
abbrev pub IsNot : ℕ → Option ChildId → Type 0
IsNot n None = Unit {0}
IsNot n (Some child) = n ≢ child.0

-- the number that the next child has at least
abbrev pub bound_after : ℕ → Option ChildId → ℕ
bound_after bound None = bound
bound_after bound (Some child) = child.0 + 1

-- a child has this number at least
abbrev pub IsFrom : ℕ → Option ChildId → Type 0
IsFrom bound None = Unit {0}
IsFrom bound (Some child) = bound ≤ child.0

-- the numbers of these children rise, from this one on
abbrev pub Rises : ℕ → List (Option ChildId) → Type 0
Rises bound [] = Unit {0}
Rises bound (child ∷ children) = IsFrom bound child × Rises (bound_after bound child) children

-- a line's child was started, or its start failed, which is a fault
pub record HasStarted (line : PlanLine) (child : Option ChildId)
    (told told' : Option (List Spawned))
    (next next' : ℕ) (is_running : ℕ → Type 0) (faults faults' : ℕ) : Type 0 where
  pub calls : TellsMore told told' (Started (line_words line) (number_of child) ∷ [])
  pub fresh : IsFrom next child
  pub below : bound_after next child ≤ next'
  pub runs : Runs is_running child
  pub cause : child ≡ None → Rose faults faults'

-- a start failed
abbrev pub HasNone : List (Option ChildId) → Type 0
HasNone [] = ⊥
HasNone (child ∷ children) = (child ≡ None) ⊎ HasNone children

-- so was each line's child
pub record HaveStarted (lines : List PlanLine) (children : List (Option ChildId))
    (told told' : Option (List Spawned)) (next : ℕ) (is_running : ℕ → Type 0)
    (faults faults' : ℕ) : Type 0 where
  pub many : AsMany lines children
  pub calls : TellsMore told told' (starts_told lines children)
  pub rises : Rises next children
  pub run : AllRun is_running children
  pub cause : HasNone children → Rose faults faults'

-- a wait failed
abbrev pub HasUnwaited : List ChildEnd → Type 0
HasUnwaited [] = ⊥
HasUnwaited (end ∷ ends) = (end ≡ NotWaited) ⊎ HasUnwaited ends

-- the children that started were waited for, and ended so
pub record HaveWaited (children : List (Option ChildId)) (ends : List ChildEnd)
    (told told' : Option (List Spawned)) (faults faults' : ℕ) : Type 0 where
  pub fit : AllFit children ends
  pub calls : TellsMore told told' (waits_told children ends)
  pub cause : HasUnwaited ends → Rose faults faults'

-- all children of a plan were run, and a fault of the spawner is behind each that failed
pub record HaveRun (plan : List PlanLine) (ends : List ChildEnd)
    (told told' : Option (List Spawned)) (faults faults' : ℕ) : Type 0 where
  pub ended : HaveEnded plan told told' ends
  pub cause : (n : ℕ) → HasChildCause faults faults' (first_failed n ends)
