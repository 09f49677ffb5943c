use Rattle.do_site.proofs.work.Work.finish.Goals as goal
use Rattle.std.proofs.Common.{ap, refl, ◌∙◌}
use Rattle.do_effects.specs.{Doing.doing, Plans.{plan_effect, plan_needs}}
use Rattle.do_site.proofs.{PlansKeep.{enough_place, place_left}, StepsDone.then_left}

-- there is a place to leave what nothing holds then
pub leave-requires-clause-place : goal.leave-requires-clause-place
leave-requires-clause-place c =
    let told = c.args.self.now.told in
    place_left (plan_needs c.args.plan) c.args.self.now.core c.carry_out.new.self told told
    (enough_place (plan_needs c.args.plan) c.args.needs.now c.args.self.now.core told
    c.requires.enough c.requires.place) c.carry_out.ensures.within refl refl refl
    c.has_few.ensures.ends c.has_few.ensures.most

-- the plan is carried out, and then what nothing holds is left
pub returns-clause-done : goal.returns-clause-done
returns-clause-done c = λ r run.
    then_left (doing c.args.self.now.core) (doing c.carry_out.new.self)
    (doing c.leave.new.self.core) (plan_effect r c.args.plan) (c.carry_out.ensures.done r run)
    c.leave.ensures.moved

-- the flag and the classes are as they were
pub returns-clause-stays : goal.returns-clause-stays
returns-clause-stays c = record {
  classes = c.leave.ensures.stays.classes
      ∙ c.carry_out.ensures.within.classes;
}
