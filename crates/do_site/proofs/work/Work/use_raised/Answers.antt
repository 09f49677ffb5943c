use Rattle.do_site.proofs.work.Work.use_raised.Goals as goal
use Rattle.std.proofs.Common.{◌≡◌, ap, subst, sym, ◌∙◌}
use Rattle.do_behave.specs.declared.invocation.Answer.TheVariants.{Raised}
use Rattle.do_machine.specs.declared.state.Effect.{Effect}
use Rattle.do_network.specs.Own.{Own}
use Rattle.do_part.specs.Names.{AreStored, values_of}
use Rattle.do_stack.specs.Answered.{top_answer}
use Rattle.do_effects.specs.{Doing.Doing, Plans.{CanDo, plan_values}, Tidy.IsTidy}
use Rattle.do_site.{specs.Steps.Moves, proofs.ActsDone.same_kept}
use Rattle.do_site.proofs.AnswersUsed.{answered_run, can_use, place_taken, raised_is, used_moves}
use Rattle.do_site.proofs.PlansDone.{plan_kept}

-- the plan can be carried out, once the exception was taken
pub finish-requires-clause-can : goal.finish-requires-clause-can
finish-requires-clause-can c =
    let old = c.args.self.now.core in
    let mid = c.make_room_for.new.self in
    let plan = c.in_ok-plan.plan in
    let found = raised_is old.part.own.node.stack c.requires.raised in
    let own : old.part.own ≡ mid.core.part.own
    = sym (ap (λ (d : Doing). d.own) c.in-Ok.ensures.same) in
    can_use mid.core c.take_answer.new.part c.take_answer.ensures.taken c.in-Ok.needs mid.told
    plan (Raised found.0) c.in_ok-plan.ensures.over
    (ap (λ (p : Own). top_answer p.node.stack) (sym own) ∙ found.1)
    (subst IsTidy own c.requires.kept.tidy)
    (subst (λ (p : Own). AreStored p.node (values_of (plan_values plan))) own
    c.in-Ok.ensures.allowed.values)
    (subst (λ (p : Own). CanDo p.node plan) own c.in-Ok.ensures.allowed.can)
    c.in-Ok.ensures.allowed.enough c.in-Ok.ensures.room

-- there is the place that was made
pub finish-requires-clause-place : goal.finish-requires-clause-place
finish-requires-clause-place c =
    place_taken c.make_room_for.new.self.core c.take_answer.new.part c.take_answer.ensures.taken
    c.in-Ok.needs c.make_room_for.new.self.told c.in-Ok.ensures.room

-- the exception goes where the rules say
pub returns-clause-ok : goal.returns-clause-ok
returns-clause-ok c = λ r a run is.
    let old = c.args.self.now.core in
    let new = c.finish.new.self.core in
    subst (λ (e : Effect). Moves old new e) (c.in_ok-plan.ensures.effect r a run is)
    (used_moves c.make_room_for.new.self.core c.take_answer.new.part c.take_answer.ensures.taken
    c.args.table.now old new c.in_ok-plan.plan c.in_ok-plan.ensures.over
    c.in-Ok.ensures.same c.finish.ensures.done r run)

-- what a site keeps true is true then
pub returns-clause-kept : goal.returns-clause-kept
returns-clause-kept c =
    let table = c.args.table.now in
    let old = c.args.self.now in
    let new = c.finish.new.self in
    let plan = c.in_ok-plan.plan in
    let over = c.in_ok-plan.ensures.over in
    let raised = raised_is old.core.part.own.node.stack c.requires.raised in
    let found = answered_run table old.core.part.own (Raised raised.0) raised.1 in
    plan_kept table old new found.0 plan found.1
    (used_moves c.make_room_for.new.self.core c.take_answer.new.part c.take_answer.ensures.taken
    table old.core new.core plan over c.in-Ok.ensures.same c.finish.ensures.done found.0
    found.1)
    c.finish.ensures.tidy
    (record {
      classes = c.finish.ensures.stays.classes ∙ c.in-Ok.ensures.stays.classes;
    }) c.requires.kept

-- without memory nothing but room changed
pub returns-in_default-clause-kept : goal.returns-in_default-clause-kept
returns-in_default-clause-kept c =
    same_kept c.args.table.now c.args.self.now c.make_room_for.new.self
    c.in_default.ensures.same c.in_default.ensures.stays c.requires.kept
