use Rattle.do_site.proofs.work.Work.run.Goals as goal
use Rattle.std.proofs.Common.{Option, false, refl, subst, sym, true, ◌∙◌}
use Rattle.do_behave.specs.declared.invocation.Answer.TheVariants.{Given, Raised}
use Rattle.do_machine.specs.declared.state.Effect.{Effect}
use Rattle.do_network.specs.Own.{site_context}
use Rattle.do_site.{specs.Steps.Does, proofs.AnswersUsed.{answer_state, answered_run, given_is}}
use Rattle.do_site.proofs.{AnswersUsed.raised_is, PlansKeep.run_of}
use Rattle.do_site.proofs.RunsDone.{act_runs, nothing_runs, run_acts, run_answers}

-- where nothing goes on nothing is done
pub returns-in-Nothing-clause-done : goal.returns-in-Nothing-clause-done
returns-in-Nothing-clause-done g c =
    let old = c.args.self.now.core in
    subst (λ (e : Option Effect). Does old old false e)
    (sym (nothing_runs (g.B.Behaviour.act c.args.acts.now)
    (site_context c.args.table.now old.part.own)
    old.part.own.node.stack (sym c.next_of.ensures ∙ c.in-Nothing.is)))
    (refl, refl)

-- what goes on with an act runs
pub act-requires-clause-runs : goal.act-requires-clause-runs
act-requires-clause-runs g c =
    act_runs c.args.self.now.core.part.own.node.stack (sym c.next_of.ensures ∙ c.in-Act.is)

-- the next act is done
pub returns-in_ok-act-in-Act-clause-done : goal.returns-in_ok-act-in-Act-clause-done
returns-in_ok-act-in-Act-clause-done g c =
    let old = c.args.self.now.core in
    let runs = act_runs old.part.own.node.stack (sym c.next_of.ensures ∙ c.in-Act.is) in
    let found = run_of c.args.table.now old.part.own runs in
    subst (λ (e : Option Effect). Does old c.act.new.self.core true e)
    (sym (run_acts (g.B.Behaviour.act c.args.acts.now) c.args.table.now old.part.own
    found.0 found.1 runs))
    (refl, c.in_ok-act-in-Act.ensures.ok found.0 found.1)

-- what goes on with what a call gave has that
pub use_given-requires-clause-given : goal.use_given-requires-clause-given
use_given-requires-clause-given g c = sym c.next_of.ensures ∙ c.in-Given.is

-- what a call gave is used
pub returns-in_ok-use_given-in-Given-clause-done : goal.returns-in_ok-use_given-in-Given-clause-done
returns-in_ok-use_given-in-Given-clause-done g c =
    let old = c.args.self.now.core in
    let p = old.part.own in
    let given = given_is p.node.stack (sym c.next_of.ensures ∙ c.in-Given.is) in
    let answer = Given given.0 given.1.0 in
    let found = answered_run c.args.table.now p answer given.1.1 in
    let is = answer_state c.args.table.now p found.0 answer found.1 given.1.1 in
    subst (λ (e : Option Effect). Does old c.use_given.new.self.core true e)
    (sym (run_answers (g.B.Behaviour.act c.args.acts.now) c.args.table.now p
    found.0 found.1 answer is))
    (refl, c.in_ok-use_given-in-Given.ensures.ok c.args.table.now found.0 answer found.1 is)

-- what goes on with an exception has that
pub use_raised-requires-clause-raised : goal.use_raised-requires-clause-raised
use_raised-requires-clause-raised g c = sym c.next_of.ensures ∙ c.in-Raised.is

-- an exception goes where the rules say
pub returns-in_ok-use_raised-in-Raised-clause-done :
    goal.returns-in_ok-use_raised-in-Raised-clause-done
returns-in_ok-use_raised-in-Raised-clause-done g c =
    let old = c.args.self.now.core in
    let p = old.part.own in
    let raised = raised_is p.node.stack (sym c.next_of.ensures ∙ c.in-Raised.is) in
    let answer = Raised raised.0 in
    let found = answered_run c.args.table.now p answer raised.1 in
    let is = answer_state c.args.table.now p found.0 answer found.1 raised.1 in
    subst (λ (e : Option Effect). Does old c.use_raised.new.self.core true e)
    (sym (run_answers (g.B.Behaviour.act c.args.acts.now) c.args.table.now p
    found.0 found.1 answer is))
    (refl, c.in_ok-use_raised-in-Raised.ensures.ok found.0 answer found.1 is)
