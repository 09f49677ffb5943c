-- What is refused, and what something that ran may end with.
use Rattle.do_sched.specs.declared.fault.SchedFault.TheVariants as sched
use Rattle.do_given.specs.declared.status.Status.TheVariants as answer
use Rattle.do_served.specs.Nodes as nodes
use Rattle.do_served.specs.Plans as plans
use Rattle.std.proofs.Common.{ℕ, List, Option, inl, inr, subst, sym}
use Rattle.do_base.specs.declared.outside.shelf.NamedFile.{NamedFile}
use Rattle.do_plan.specs.{Form.Form, Starts.starts_form, declared.plan.PlanLine.PlanLine}
use Rattle.do_sched.specs.declared.fault.SchedFault.{SchedFault}
use Rattle.do_given.specs.declared.{served.Served.Served, status.Status.Status}
use Rattle.do_given.specs.{Reading.{RefusesWorld, told_of}, Serving.{RefusesServed, SaysNoText}}
use Rattle.do_served.proofs.Comings.{IsEnd, IsRefusal}

-- a fault of lines is told as a refusal
fault_told : (fault : SchedFault) → IsRefusal (told_of fault)
fault_told (sched.BadLine n) = tt
fault_told (sched.TooMany n) = tt
fault_told (sched.NoEnd n) = tt
fault_told sched.Memory = tt

-- so is a file that has no lines of a form
pub text_refused : {A : Type 0} (form : Form A) (told : Option (List NamedFile)) (name : List ℕ)
    (status : Status) → SaysNoText form told name status → IsRefusal status
text_refused form told name status (inl long) = subst IsRefusal (sym long.tells) tt
text_refused form told name status (inr text) =
    subst IsRefusal (sym text.is_read.tells) (fault_told text.is_read.fault)

-- so is a word that gives no world
world_refused : (told : Option (List NamedFile)) (word : List ℕ) (status : Status)
    → RefusesWorld told word status → IsRefusal status
world_refused told word status (named, inl long) = subst IsRefusal (sym long.tells) tt
world_refused told word status (named, inr text) = subst IsRefusal (sym text.is_read.tells) tt

-- so is what gives no node of a world with its starts
pub served_refused : (told : Option (List NamedFile)) (port : ℕ) (word name : List ℕ)
    (status : Status) → RefusesServed told port word name status → IsRefusal status
served_refused told port word name status (inl (inl world)) =
    world_refused told word status world
served_refused told port word name status (inl (inr lacks)) = subst IsRefusal (sym lacks.tells) tt
served_refused told port word name status (inr second) =
    text_refused starts_form told name status second.refused

-- a node that was served ended so
pub served_ended : (turns : ℕ) (old new : nodes.Seens) (s : Served) (status : Status)
    → nodes.Ends turns old new s status → IsEnd status
served_ended turns old new s answer.Ok it = tt
served_ended turns old new s (answer.Usage word) it = it
served_ended turns old new s answer.ReadFault it = it
served_ended turns old new s (answer.TooLong read limit) it = it
served_ended turns old new s (answer.BadWorld fault) it = it
served_ended turns old new s (answer.BadSchedule line) it = it
served_ended turns old new s answer.WriteFault it = tt
served_ended turns old new s (answer.TurnsSpent n) it = tt
served_ended turns old new s (answer.ChildFailed n end) it = tt
served_ended turns old new s answer.Memory it = tt
served_ended turns old new s answer.LinkFault it = tt
served_ended turns old new s (answer.BadRecord index line) it = it
served_ended turns old new s (answer.Contradiction index line) it = it

-- so did a plan that was run
pub plan_ended : (old new : plans.Seens) (plan : List PlanLine) (status : Status)
    → plans.Ends old new plan status → IsEnd status
plan_ended old new plan answer.Ok it = tt
plan_ended old new plan (answer.Usage word) it = it
plan_ended old new plan answer.ReadFault it = it
plan_ended old new plan (answer.TooLong read limit) it = it
plan_ended old new plan (answer.BadWorld fault) it = it
plan_ended old new plan (answer.BadSchedule line) it = it
plan_ended old new plan answer.WriteFault it = tt
plan_ended old new plan (answer.TurnsSpent n) it = tt
plan_ended old new plan (answer.ChildFailed n end) it = tt
plan_ended old new plan answer.Memory it = tt
plan_ended old new plan answer.LinkFault it = tt
plan_ended old new plan (answer.BadRecord index line) it = it
plan_ended old new plan (answer.Contradiction index line) it = it
