use Rattle.do_site.proofs.work.Work.act.Goals as goal
use Rattle.std.proofs.Common.{◌≡◌, ◌∙◌, ap, subst, sym}
use Rattle.do_behave.specs.{Changes.meaning, declared.{act.Act.Act, change.Change.Change}}
use Rattle.do_machine.specs.run.{Acts.act_rule, Run.next_act, Verdicts.effect_of}
use Rattle.do_site.{specs.Steps.Moves, proofs.ActsDone.{change_fits, change_leaves_none, some_runs}}
use Rattle.do_site.proofs.PlansKeep.{on_ok, run_of}

-- one that runs is there
pub go_on-requires-clause-top : goal.go_on-requires-clause-top
go_on-requires-clause-top g c =
    some_runs c.args.self.now.core.part.own.node.stack c.requires.runs

-- the change fits the top invocation
pub go_on-requires-clause-fits : goal.go_on-requires-clause-fits
go_on-requires-clause-fits g c =
    let p = c.args.self.now.core.part.own in
    let found = run_of c.args.table.now p c.requires.runs in
    change_fits c.args.table.now p found.0 found.1 c.in-Ok.change
    (next_act (g.B.Behaviour.act c.args.acts.now) found.0) (c.in-Ok.ensures found.0 found.1)

-- a change that is no act is a step
pub go_on-requires-clause-step : goal.go_on-requires-clause-step
go_on-requires-clause-step g c =
    change_leaves_none c.in-Ok.change c.args.self.now.core.part.own.node.stack
    c.in_default-change.not-Other

-- and is done
pub returns-in_default-change-clause-ok : goal.returns-in_default-change-clause-ok
returns-in_default-change-clause-ok g c =
    on_ok c.go_on.result (λ done r run.
    done r (next_act (g.B.Behaviour.act c.args.acts.now) r) run (c.in-Ok.ensures r run))
    c.go_on.ensures.ok

-- an act is done
pub returns-in-Other-clause-ok : goal.returns-in-Other-clause-ok
returns-in-Other-clause-ok g c =
    on_ok c.do_act.result (λ done r run.
    let next = next_act (g.B.Behaviour.act c.args.acts.now) r in
    let means = c.in-Ok.ensures r run in
    let same : c.in-Other.act ≡ next
    = sym (ap (λ (x : Change). meaning r.top x) c.in-Other.is) ∙ means.is in
    subst (λ (a : Act). Moves c.args.self.now.core c.do_act.new.self.core
    (effect_of r (act_rule r a))) same (done r run))
    c.do_act.ensures.ok
