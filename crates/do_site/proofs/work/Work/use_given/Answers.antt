use Rattle.do_site.proofs.work.Work.use_given.Goals as goal
use Rattle.std.proofs.Common.{◌≡◌, ◌∷◌, Some, ap, subst, sym, ◌∙◌}
use Rattle.do_behave.specs.declared.invocation.Answer.{Answer, TheVariants.Given}
use Rattle.do_machine.specs.run.{Run.answer_rule, Verdicts.effect_of}
use Rattle.do_network.specs.Own.{Own}
use Rattle.do_part.specs.Names.{AreStored, values_of}
use Rattle.do_stack.specs.Answered.{top_answer}
use Rattle.do_effects.specs.{Doing.{Doing, doing}, Tidy.IsTidy, declared.plan.Plan.TheVariants.Uses}
use Rattle.do_site.specs.{Steps.Moves, Stored.top_answered}
use Rattle.do_site.proofs.AnswersUsed.{answered_run, answered_values, can_use, enough_used}
use Rattle.do_site.proofs.{AnswersUsed.{place_taken, same_answer, used_moves}, PlansDone.plan_kept}
use Rattle.do_site.proofs.Stored.{there_stored}

-- what was given can be used, once it was taken
pub finish-requires-clause-can : goal.finish-requires-clause-can
finish-requires-clause-can c =
    let old = c.args.self.now in
    let mid = c.make_room.new.self in
    let v = c.in-Some-Given.value in
    let outs = c.in-Some-Given.outs in
    let same : doing mid.core ≡ doing old.core = c.in_ok-make_room.ensures.same in
    let own : old.core.part.own ≡ mid.core.part.own = sym (ap (λ (d : Doing). d.own) same) in
    let has : top_answer mid.core.part.own.node.stack ≡ Some (Given v outs)
    = sym c.take_answer.ensures.which ∙ c.in-Some-Given.is ∙ ap Some c.in-Some-Given.field-0-is in
    let had : top_answer old.core.part.own.node.stack ≡ Some (Given v outs)
    = ap (λ (p : Own). top_answer p.node.stack) own ∙ has in
    can_use mid.core c.take_answer.new.part c.take_answer.ensures.taken c.to_keep-needs.result
    mid.told (Uses v outs) (Given v outs) tt has
    (subst IsTidy own c.requires.tidy)
    (subst (λ (p : Own). AreStored p.node (values_of (v ∷ outs))) own
    (subst (λ vs. AreStored old.core.part.own.node (values_of vs))
    (answered_values old.core.part.own.node.stack (Given v outs) had)
    (there_stored old.core.part.own.node
    (values_of (top_answered old.core.part.own.node.stack)) c.in-Some.ensures.there)))
    tt
    (enough_used old.core.part.own.node.stack v outs c.in-Some.names c.to_keep-needs.result had
    c.in-Some.ensures.counted c.to_keep-needs.ensures)
    c.in_ok-make_room.ensures.room

-- it takes no more room than was counted
pub finish-requires-clause-enough : goal.finish-requires-clause-enough
finish-requires-clause-enough c =
    let old = c.args.self.now.core in
    let had : top_answer old.part.own.node.stack
    ≡ Some (Given c.in-Some-Given.value c.in-Some-Given.outs)
    = ap (λ (d : Doing). top_answer d.own.node.stack) (sym c.in_ok-make_room.ensures.same)
    ∙ sym c.take_answer.ensures.which ∙ c.in-Some-Given.is ∙ ap Some c.in-Some-Given.field-0-is in
    enough_used old.part.own.node.stack c.in-Some-Given.value c.in-Some-Given.outs
    c.in-Some.names c.to_keep-needs.result had c.in-Some.ensures.counted c.to_keep-needs.ensures

-- there is the place that was made
pub finish-requires-clause-place : goal.finish-requires-clause-place
finish-requires-clause-place c =
    place_taken c.make_room.new.self.core c.take_answer.new.part c.take_answer.ensures.taken
    c.to_keep-needs.result c.make_room.new.self.told c.in_ok-make_room.ensures.room

-- what was given is used
pub returns-clause-ok : goal.returns-clause-ok
returns-clause-ok c = λ table r a run is.
    let old = c.args.self.now.core in
    let new = c.finish.new.self.core in
    let v = c.in-Some-Given.value in
    let outs = c.in-Some-Given.outs in
    let same : doing c.make_room.new.self.core ≡ doing old = c.in_ok-make_room.ensures.same in
    let had : top_answer old.part.own.node.stack ≡ Some (Given v outs)
    = ap (λ (d : Doing). top_answer d.own.node.stack) (sym same)
    ∙ sym c.take_answer.ensures.which ∙ c.in-Some-Given.is ∙ ap Some c.in-Some-Given.field-0-is in
    subst (λ (b : Answer). Moves old new (effect_of r (answer_rule b)))
    (same_answer table old.part.own r a (Given v outs) run is had)
    (used_moves c.make_room.new.self.core c.take_answer.new.part c.take_answer.ensures.taken table
    old new (Uses v outs) tt same c.finish.ensures.done r run)

-- what a site keeps true is true then
pub returns-clause-kept : goal.returns-clause-kept
returns-clause-kept c table k =
    let old = c.args.self.now in
    let mid = c.make_room.new.self in
    let new = c.finish.new.self in
    let v = c.in-Some-Given.value in
    let outs = c.in-Some-Given.outs in
    let same : doing mid.core ≡ doing old.core = c.in_ok-make_room.ensures.same in
    let had : top_answer old.core.part.own.node.stack ≡ Some (Given v outs)
    = ap (λ (d : Doing). top_answer d.own.node.stack) (sym same)
    ∙ sym c.take_answer.ensures.which ∙ c.in-Some-Given.is ∙ ap Some c.in-Some-Given.field-0-is in
    let found = answered_run table old.core.part.own (Given v outs) had in
    plan_kept table old new found.0 (Uses v outs) found.1
    (used_moves mid.core c.take_answer.new.part c.take_answer.ensures.taken table old.core new.core
    (Uses v outs) tt same c.finish.ensures.done found.0 found.1)
    c.finish.ensures.tidy
    (record {
      classes = c.finish.ensures.stays.classes ∙ c.in_ok-make_room.ensures.stays.classes;
    }) k
