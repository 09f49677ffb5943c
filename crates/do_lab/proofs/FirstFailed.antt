-- Why the first child that failed did.
use Rattle.std.proofs.Common.{◌≡◌, ℕ, ◌+◌, pos, Bool, true, false, cond, List, [], ◌∷◌, refl}
use Rattle.std.{proofs.Common.{Option, Some, None, inl, inr}, specs.Ordering.int_eq}
use Rattle.do_base.specs.outside.Causes.{Rose}
use Rattle.do_plan.specs.declared.plan.PlanLine.{PlanLine}
use Rattle.do_lab.specs.declared.{spawner.ChildId.ChildId, children.ChildEnd.ChildEnd}
use Rattle.do_lab.specs.declared.children.ChildEnd.TheVariants.{Status, NotStarted, NotWaited}
use Rattle.do_lab.specs.declared.children.LabEnd.{LabEnd}
use Rattle.do_lab.specs.declared.children.LabEnd.TheVariants.{Done, ChildFailed, WriteFault, Memory}
use Rattle.do_base.specs.outside.Bytes.{with_more}
use Rattle.do_lab.specs.{Told.Spawned, Children.{AllFit, HasChildCause, first_failed, HaveEnded}}
use Rattle.do_lab.specs.{Children.{lab_text, TellsLab}, Running.{HasNone, HasUnwaited}}

-- a start or a wait that failed is behind a child that was not started or not waited for
pub cause_of_first : (f g : ℕ) (children : List (Option ChildId)) (ends : List ChildEnd)
    → AllFit children ends → (HasNone children → Rose f g) → (HasUnwaited ends → Rose f g)
    → (n : ℕ) → HasChildCause f g (first_failed n ends)
cause_of_first f g [] [] fit none unwaited n = tt
cause_of_first f g [] (end ∷ ends) fit none unwaited n = absurd fit
cause_of_first f g (child ∷ children) [] fit none unwaited n = absurd fit
cause_of_first f g (child ∷ children) (Status status ∷ ends) fit none unwaited n =
    go (int_eq status (pos 0)) (cause_of_first f g children ends fit.1 (λ h. none (inr h))
    (λ h. unwaited (inr h)) (n + 1))
  where
    go : (t : Bool) → HasChildCause f g (first_failed (n + 1) ends) → HasChildCause f g
        (cond t (first_failed (n + 1) ends) (ChildFailed n (Status status)))
    go true later = later
    go false later = tt
cause_of_first f g (None ∷ children) (NotStarted ∷ ends) fit none unwaited n = none (inl refl)
cause_of_first f g (Some child ∷ children) (NotStarted ∷ ends) fit none unwaited n =
    absurd (fit.0 refl)
cause_of_first f g (child ∷ children) (NotWaited ∷ ends) fit none unwaited n =
    unwaited (inl refl)

-- an answer for which all was written
abbrev WritesAll : LabEnd → Type 0
WritesAll Done = Unit {0}
WritesAll (ChildFailed n end) = Unit {0}
WritesAll WriteFault = ⊥
WritesAll Memory = ⊥

-- that of the first child that failed, or of none, is such an answer
first_writes : (n : ℕ) (ends : List ChildEnd) → WritesAll (first_failed n ends)
first_writes n [] = tt
first_writes n (Status status ∷ ends) = go (int_eq status (pos 0)) (first_writes (n + 1) ends)
  where
    go : (t : Bool) → WritesAll (first_failed (n + 1) ends)
        → WritesAll (cond t (first_failed (n + 1) ends) (ChildFailed n (Status status)))
    go true later = later
    go false later = tt
first_writes n (NotStarted ∷ ends) = tt
first_writes n (NotWaited ∷ ends) = tt

-- what it tells
tells_first : (plan : List PlanLine) (told told' : Option (List Spawned))
    (before now : Option (List ℕ))
    (f g : ℕ) (ends : List ChildEnd) (end : LabEnd) → WritesAll end → end ≡ first_failed 1 ends
    → HaveEnded plan told told' ends → now ≡ with_more before (lab_text plan ends)
    → TellsLab plan told told' before now f g end
tells_first plan told told' before now f g ends Done all e ended written =
    (ends, ended, e, written)
tells_first plan told told' before now f g ends (ChildFailed n end) all e ended written =
    (ends, ended, e, written)
tells_first plan told told' before now f g ends WriteFault all e ended written = absurd all
tells_first plan told told' before now f g ends Memory all e ended written = absurd all

-- where all was written, the first child that failed is told
pub tells_all : (plan : List PlanLine) (told told' : Option (List Spawned))
    (before now : Option (List ℕ))
    (f g : ℕ) (ends : List ChildEnd) → HaveEnded plan told told' ends
    → now ≡ with_more before (lab_text plan ends)
    → TellsLab plan told told' before now f g (first_failed 1 ends)
tells_all plan told told' before now f g ends ended written =
    tells_first plan told told' before now f g ends (first_failed 1 ends) (first_writes 1 ends) refl
    ended written
