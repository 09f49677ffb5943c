use Rattle.do_site.proofs.work.Work.do_act.Goals as goal
use Rattle.std.proofs.Common.{◌∙◌, refl, sym}
use Rattle.do_site.proofs.{ActsDone.{act_leaves_none, some_runs}, PlansKeep.on_ok}

-- one that runs is there
pub go_on-requires-clause-top : goal.go_on-requires-clause-top
go_on-requires-clause-top c =
    some_runs c.args.self.now.core.part.own.node.stack c.requires.runs

-- an act fits whatever runs
pub go_on-requires-clause-fits : goal.go_on-requires-clause-fits
go_on-requires-clause-fits c = λ top first. tt

-- a step leaves nothing to do
pub go_on-requires-clause-step : goal.go_on-requires-clause-step
go_on-requires-clause-step c =
    act_leaves_none c.args.act c.args.self.now.core.part.own.node.stack
    (sym c.is_step.ensures ∙ c.if-is_step.true)

-- a step is done
pub returns-then-is_step-clause-ok : goal.returns-then-is_step-clause-ok
returns-then-is_step-clause-ok c =
    on_ok c.go_on.result (λ done r run. done r c.args.act run (record { is = refl; fits = tt }))
    c.go_on.ensures.ok
