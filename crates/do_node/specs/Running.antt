-- What serving a node and running a plan come to, as commands.
use Rattle.do_given.specs.declared.status.Status.TheVariants as answer
use Rattle.do_served.specs.Nodes as nodes
use Rattle.do_served.specs.Plans as plans
use Rattle.std.specs.Prelude.{◌≡◌, ℕ, List, Option}
use Rattle.do_base.specs.declared.outside.shelf.NamedFile.{NamedFile}
use Rattle.do_cli.specs.declared.command.Command.{Command, TheVariants.{Node, Lab}}
use Rattle.do_given.specs.declared.{served.Served.Served, status.Status.Status}
use Rattle.do_given.specs.Serving.{GivesServed, SaysPlan}
use Rattle.do_lab.specs.{Children.lab_text, Told.Spawned, declared.children.ChildEnd.ChildEnd}
use Rattle.do_link.specs.Told.{Told}
use Rattle.do_plan.specs.declared.plan.PlanLine.{PlanLine}
use Rattle.do_serve.specs.Answers.{record_text}

-- the text is the record of a node that is given, over what a link may tell
pub record IsServed (told : Option (List NamedFile)) (port : ℕ) (word name : List ℕ) (turns : ℕ)
    (text : List ℕ) : Type 0 where
  pub given : Served
  pub gives : GivesServed told port word name given
  pub list : List Told
  pub is : text ≡ record_text given.place.seat.node (nodes.report turns given list)

-- the text says of each child of a plan that is given how it ended
pub record IsRun (told : Option (List NamedFile)) (name text : List ℕ) : Type 0 where
  pub plan : List PlanLine
  pub says : SaysPlan told name plan
  pub ends : List ChildEnd
  pub is : text ≡ lab_text plan ends

-- a count, before and after a call
pub record Counts : Type 0 where
  pub before : ℕ
  pub now : ℕ

-- what is seen of a link and of an output, by what each tells and by its count of faults
abbrev pub link_seen : {L K : Type 0} → (L → Option (List Told)) → (L → ℕ)
    → (K → Option (List ℕ)) → (K → ℕ) → L → K → nodes.Seens
link_seen told link_faults written output_faults link output = record {
  told = told link;
  written = written output;
  link = link_faults link;
  output = output_faults output;
}

-- what is seen of a spawner and of an output
abbrev pub spawner_seen : {P K : Type 0} → (P → Option (List Spawned)) → (P → ℕ)
    → (K → Option (List ℕ)) → (K → ℕ) → P → K → plans.Seens
spawner_seen told spawner_faults written output_faults spawner output = record {
  told = told spawner;
  written = written output;
  spawner = spawner_faults spawner;
  output = output_faults output;
}

-- a command was carried out to its end, and is answered so
abbrev pub EndsWith : Status → Command → Type 0
EndsWith answer.Ok command = Unit {0}
EndsWith (answer.TurnsSpent n) (Node port world starts turns) = n ≡ turns
EndsWith answer.LinkFault (Node port world starts turns) = Unit {0}
EndsWith (answer.ChildFailed index end) (Lab plan) = Unit {0}
EndsWith status command = ⊥

-- the answers that say how what ran ended, but for a good end
abbrev pub IsRunEnd : Status → Type 0
IsRunEnd (answer.TurnsSpent n) = Unit {0}
IsRunEnd answer.LinkFault = Unit {0}
IsRunEnd (answer.ChildFailed index end) = Unit {0}
IsRunEnd status = ⊥

-- what a command comes to over a link: `node` serves its node, and no other asks anything of it
abbrev pub Links : Option (List NamedFile) → Counts → nodes.Seens → nodes.Seens → Status → Command
    → Type 0
Links told reads old new status (Node port world starts turns) =
    nodes.ServesGiven told reads.before reads.now port world starts turns old new status
Links told reads old new status command = new.told ≡ old.told

-- what it comes to over a spawner: `lab` runs its plan, and no other asks anything of it
abbrev pub Spawns : Option (List NamedFile) → Counts → plans.Seens → plans.Seens → Status → Command
    → Type 0
Spawns told reads old new status (Lab plan) =
    plans.RunsGiven told reads.before reads.now plan old new status
Spawns told reads old new status command = new.told ≡ old.told
