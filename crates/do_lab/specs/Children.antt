-- The children of a plan: how they were started, how they ended, and what is written of them.
use Rattle.std.specs.Prelude.{◌≡◌, ℕ, ◌+◌, ◌⊎◌, ℤ, pos, List, [], ◌∷◌, ◌++◌, codes, decimal, Option}
use Rattle.std.specs.{Prelude.{Some, None, if◌then◌else◌}, Fmt.signed_decimal, Ordering.int_eq}
use Rattle.do_base.specs.outside.{Bytes.{with_more, HasWritten}, Causes.Rose}
use Rattle.do_sched.specs.Spelling.{fed}
use Rattle.do_plan.specs.declared.plan.PlanLine.{PlanLine}
use Rattle.do_lab.specs.declared.{spawner.ChildId.ChildId, children.ChildEnd.ChildEnd}
use Rattle.do_lab.specs.declared.children.ChildEnd.TheVariants.{Status, NotStarted, NotWaited}
use Rattle.do_lab.specs.declared.children.LabEnd.{LabEnd}
use Rattle.do_lab.specs.declared.children.LabEnd.TheVariants.{Done, ChildFailed, WriteFault, Memory}
use Rattle.do_lab.specs.Told.{Spawned, Started, Waited}
use Rattle.do_output.specs.Told.{TellsMore}

-- ---- starts and waits

-- the words of a line's child
abbrev pub line_words : PlanLine → List (List ℕ)
line_words l = codes "node" ∷ decimal l.port ∷ l.world ∷ l.starts ∷ decimal l.turns ∷ []

-- a child's number
abbrev pub number_of : Option ChildId → Option ℕ
number_of None = None
number_of (Some child) = Some child.0

-- the starts of these lines, each with its child
abbrev pub starts_told : List PlanLine → List (Option ChildId) → List Spawned
starts_told (line ∷ lines) (child ∷ children) =
    Started (line_words line) (number_of child) ∷ starts_told lines children
starts_told lines children = []

-- the status that a wait gave
abbrev pub status_of : ChildEnd → Option ℤ
status_of (Status status) = Some status
status_of NotStarted = None
status_of NotWaited = None

-- the wait for a child, if there is one
abbrev pub waits_for : Option ChildId → ChildEnd → List Spawned
waits_for None end = []
waits_for (Some child) end = Waited child.0 (status_of end) ∷ []

-- the waits for these children, each with its end
abbrev pub waits_told : List (Option ChildId) → List ChildEnd → List Spawned
waits_told (child ∷ children) (end ∷ ends) = waits_for child end ++ waits_told children ends
waits_told children ends = []

-- a child was not started exactly where its end says so
abbrev pub Fits : Option ChildId → ChildEnd → Type 0
Fits None end = end ≡ NotStarted
Fits (Some child) end = (end ≡ NotStarted) → ⊥

-- each child fits its end, and there are as many ends as children
abbrev pub AllFit : List (Option ChildId) → List ChildEnd → Type 0
AllFit [] [] = Unit {0}
AllFit (child ∷ children) (end ∷ ends) = Fits child end × AllFit children ends
AllFit children ends = ⊥

-- as many children as lines
abbrev pub AsMany : List PlanLine → List (Option ChildId) → Type 0
AsMany [] [] = Unit {0}
AsMany (line ∷ lines) (child ∷ children) = AsMany lines children
AsMany lines children = ⊥

-- All children of a plan were started, in order, and those that started were waited for, in order,
-- and ended so; the spawner told this.
pub record HaveEnded (plan : List PlanLine) (told told' : Option (List Spawned))
    (ends : List ChildEnd) : Type 0 where
  pub children : List (Option ChildId)
  pub many : AsMany plan children
  pub fit : AllFit children ends
  pub calls : TellsMore told told' (starts_told plan children ++ waits_told children ends)

-- ---- what is written

-- a status, or `failed`
abbrev pub end_word : ChildEnd → List ℕ
end_word (Status status) = signed_decimal status
end_word NotStarted = codes "failed"
end_word NotWaited = codes "failed"

-- a node, and how its child ended
abbrev pub end_line : PlanLine → ChildEnd → List ℕ
end_line line end = fed (codes "node " ++ decimal line.port ++ 32 ∷ end_word end)

-- a line for each child
abbrev pub end_lines : List PlanLine → List ChildEnd → List ℕ
end_lines (line ∷ lines) (end ∷ ends) = end_line line end ++ end_lines lines ends
end_lines lines ends = []

-- all that is written
abbrev pub lab_text : List PlanLine → List ChildEnd → List ℕ
lab_text plan ends = fed (codes "lab 1") ++ end_lines plan ends ++ fed (codes "end")

-- the first child, counted on from a number, whose end is not the status 0
abbrev pub first_failed : ℕ → List ChildEnd → LabEnd
first_failed n [] = Done
first_failed n (Status status ∷ ends) =
    if int_eq status (pos 0) then first_failed (n + 1) ends else ChildFailed n (Status status)
first_failed n (end ∷ ends) = ChildFailed n end

-- ---- answers

-- a child that was not started or not waited for is a fault of the spawner
abbrev pub HasChildCause : ℕ → ℕ → LabEnd → Type 0
HasChildCause before now (ChildFailed n NotStarted) = Rose before now
HasChildCause before now (ChildFailed n NotWaited) = Rose before now
HasChildCause before now end = Unit {0}

-- What an answer tells of what the spawner told and of what was written. The counts are those of
-- the faults of the output.
abbrev pub TellsLab : List PlanLine → Option (List Spawned) → Option (List Spawned)
    → Option (List ℕ) → Option (List ℕ) → ℕ → ℕ → LabEnd → Type 0
TellsLab plan told told' before now faults faults' WriteFault =
    (ends : List ChildEnd) × HaveEnded plan told told' ends × Rose faults faults'
    × HasWritten before now (lab_text plan ends)
TellsLab plan told told' before now faults faults' Memory =
    (now ≡ before) ⊎ ((ends : List ChildEnd) × HaveEnded plan told told' ends
    × HasWritten before now (lab_text plan ends))
TellsLab plan told told' before now faults faults' end =
    (ends : List ChildEnd) × HaveEnded plan told told' ends × (end ≡ first_failed 1 ends)
    × (now ≡ with_more before (lab_text plan ends))
