-- What running a plan comes to.
use Rattle.do_lab.specs.declared.children.LabEnd.TheVariants as ends
use Rattle.do_given.specs.declared.status.Status.TheVariants as answer
use Rattle.std.specs.Prelude.{◌≡◌, ℕ, List, [], Option}
use Rattle.do_base.specs.declared.outside.shelf.NamedFile.{NamedFile}
use Rattle.do_lab.specs.{Children.{HasChildCause, TellsLab}, Told.Spawned}
use Rattle.do_lab.specs.declared.children.LabEnd.{LabEnd}
use Rattle.do_output.specs.Told.{TellsMore}
use Rattle.do_plan.specs.{Plan.plan_form, declared.plan.PlanLine.PlanLine}
use Rattle.do_given.specs.{declared.status.Status.Status, Files.IsUnread}
use Rattle.do_given.specs.Serving.{SaysNoText, SaysPlan}
use Rattle.do_served.specs.Coming.{ComesTo}

-- what a spawner told and an output held, and the counts of their faults
pub record Seens : Type 0 where
  pub told : Option (List Spawned)
  pub written : Option (List ℕ)
  pub spawner : ℕ
  pub output : ℕ

-- nothing was asked of the spawner, and nothing was written
abbrev pub DoesNothing : Seens → Seens → Type 0
DoesNothing old new = TellsMore old.told new.told [] × (new.written ≡ old.written)

-- what running the children of a plan ended with, as a status tells it
abbrev pub Ends : Seens → Seens → List PlanLine → Status → Type 0
Ends old new plan answer.Ok = TellsLab plan old.told new.told old.written new.written old.output
    new.output ends.Done
Ends old new plan (answer.ChildFailed n end) = HasChildCause old.spawner new.spawner
    (ends.ChildFailed n end) × TellsLab plan old.told new.told old.written new.written old.output
    new.output (ends.ChildFailed n end)
Ends old new plan answer.WriteFault = TellsLab plan old.told new.told old.written new.written
    old.output new.output ends.WriteFault
Ends old new plan answer.Memory = TellsLab plan old.told new.told old.written new.written
    old.output new.output ends.Memory
Ends old new plan status = ⊥

-- what is told of how a plan ended
abbrev pub status_of : LabEnd → Status
status_of ends.Done = answer.Ok
status_of (ends.ChildFailed n end) = answer.ChildFailed n end
status_of ends.WriteFault = answer.WriteFault
status_of ends.Memory = answer.Memory

-- what a command comes to that runs the plan that a word names
abbrev pub RunsGiven : Option (List NamedFile) → ℕ → ℕ → List ℕ → Seens → Seens → Status → Type 0
RunsGiven told before now name old new = ComesTo
    (λ files. SaysPlan files name) (λ files. SaysNoText plan_form files name)
    (Ends old new) (IsUnread told before now name) (DoesNothing old new) told
