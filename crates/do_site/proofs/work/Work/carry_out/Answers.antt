use Rattle.do_site.proofs.work.Work.carry_out.Goals as goal
use Rattle.std.proofs.Common.{◌≡◌, ap, sym, subst, ◌∙◌}
use Rattle.do_network.specs.Own.{Own}
use Rattle.do_part.specs.Names.{AreStored, values_of}
use Rattle.do_effects.specs.{Doing.{Doing, doing}, Plans.{CanDo, IsRunning, plan_effect}}
use Rattle.do_effects.specs.{Plans.{plan_needs, plan_values}, Tidy.IsTidy}
use Rattle.do_site.proofs.{ActsDone.{same_kept, same_moves}, PlansDone.apart_after}
use Rattle.do_site.proofs.PlansKeep.{enough_room, is_run, run_of}

-- the plan can still be carried out once room was made
pub finish-requires-clause-can : goal.finish-requires-clause-can
finish-requires-clause-can c =
    let own = sym (ap (λ (d : Doing). d.own) c.in-Ok.ensures.same) in
    record {
      tidy = subst IsTidy own c.requires.kept.tidy;
      runs = subst (λ (p : Own). IsRunning p.node.stack) own c.requires.runs;
      values = subst (λ (p : Own). AreStored p.node (values_of (plan_values c.args.plan))) own
          c.in-Ok.ensures.allowed.values;
      can = subst (λ (p : Own). CanDo p.node c.args.plan) own c.in-Ok.ensures.allowed.can;
      room = enough_room (plan_needs c.args.plan) c.in-Ok.needs c.make_room_for.new.self.core
          c.in-Ok.ensures.allowed.enough c.in-Ok.ensures.room.room;
    }

-- the plan is done
pub returns-clause-ok : goal.returns-clause-ok
returns-clause-ok c = λ r run.
    let same = c.in-Ok.ensures.same in
    same_moves (doing c.args.self.now.core) (doing c.make_room_for.new.self.core)
    (doing c.finish.new.self.core) (plan_effect r c.args.plan) same
    (c.finish.ensures.done r (is_run c.args.table.now c.args.self.now.core.part.own
    c.make_room_for.new.self.core.part.own r (ap (λ (d : Doing). d.own) same) run))

-- what a site keeps true is true then
pub returns-clause-kept : goal.returns-clause-kept
returns-clause-kept c =
    let table = c.args.table.now in
    let old = c.args.self.now in
    let mid = c.make_room_for.new.self in
    let new = c.finish.new.self in
    let same : doing mid.core ≡ doing old.core = c.in-Ok.ensures.same in
    let found = run_of table old.core.part.own c.requires.runs in
    let r = found.0 in
    let done = same_moves (doing old.core) (doing mid.core) (doing new.core)
    (plan_effect r c.args.plan) same
    (c.finish.ensures.done r (is_run table old.core.part.own mid.core.part.own r
    (ap (λ (d : Doing). d.own) same) found.1)) in
    record {
      tidy = c.finish.ensures.tidy;
      apart = apart_after table old.core new.core r c.args.plan found.1 done
          c.requires.kept.apart;
      classes = c.finish.ensures.stays.classes ∙ c.in-Ok.ensures.stays.classes
          ∙ c.requires.kept.classes;
    }

-- without memory nothing but room changed
pub returns-in_default-clause-kept : goal.returns-in_default-clause-kept
returns-in_default-clause-kept c =
    same_kept c.args.table.now c.args.self.now c.make_room_for.new.self
    c.in_default.ensures.same c.in_default.ensures.stays c.requires.kept
