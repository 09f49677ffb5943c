use Rattle.do_site.proofs.work.Work.go_on.Goals as goal
use Rattle.std.proofs.Common.{◌≡◌, ◌∙◌, None, [], ap, refl, subst, sym}
use Rattle.do_behave.specs.InPlace.{after_act}
use Rattle.do_machine.specs.{declared.{node.Node.Node, state.Effect.Effect}, Effect.only}
use Rattle.do_machine.specs.{State.is_open, run.{Acts.act_rule, Verdicts.effect_of}}
use Rattle.do_part.specs.Changed.{changed}
use Rattle.do_effects.specs.{Doing.{Doing, does, doing}, Tidy.IsTidy}
use Rattle.do_site.proofs.{ActsDone.{change_meant, left_meant, tidy_alone}, ActsKeep.change_keeps}
use Rattle.do_site.proofs.{KeptSteps.apart_then, StepsDone.{alone_does, step_done, then_left}}

-- a tidy node is tidy once the step is done
pub leave-requires-clause-tidy : goal.leave-requires-clause-tidy
leave-requires-clause-tidy c =
    let p = c.args.self.now.core.part.own in
    let keeps = change_keeps c.args.change p.node in
    subst IsTidy (sym (ap (λ (d : Doing). d.own) c.in_ok-make_change.ensures.own))
    (tidy_alone p (changed c.args.change p.node) c.requires.kept.tidy keeps.ends
    keeps.held keeps.asked)

-- there is a place to leave what nothing holds
pub leave-requires-clause-place : goal.leave-requires-clause-place
leave-requires-clause-place c = c.in_ok-make_change.ensures.room

-- a step is done
pub returns-clause-ok : goal.returns-clause-ok
returns-clause-ok c = λ r act run means.
    let old = c.args.self.now.core in
    let p = old.part.own in
    let change = c.args.change in
    let keeps = change_keeps change p.node in
    let none : (after_act act r.top []).left ≡ None
    = sym (left_meant c.args.table.now p r run change act means) ∙ c.requires.step in
    let e : Effect = effect_of r (act_rule r act) in
    let did : doing c.make_change.new.self.core ≡ does (doing old) e
    = c.in_ok-make_change.ensures.own
    ∙ alone_does (doing old) (changed change p.node) c.requires.kept.tidy keeps.ends keeps.held
    keeps.asked
    ∙ ap (λ (n : Node). does (doing old) (only n))
    (change_meant c.args.table.now p r run change act means)
    ∙ ap (does (doing old)) (sym (step_done r act none)) in
    then_left (doing old) (doing c.make_change.new.self.core) (doing c.leave.new.self.core) e did
    c.leave.ensures.moved

-- what a site keeps true is true once a step is done
pub returns-clause-kept : goal.returns-clause-kept
returns-clause-kept c =
    let table = c.args.table.now in
    let old = c.args.self.now in
    let p = old.core.part.own in
    let change = c.args.change in
    let n = changed change p.node in
    let keeps = change_keeps change p.node in
    let did = c.in_ok-make_change.ensures.own
    ∙ alone_does (doing old.core) n c.requires.kept.tidy keeps.ends keeps.held keeps.asked in
    record {
      tidy = c.leave.ensures.tidy;
      apart = apart_then (doing old.core) (doing old.core) (doing c.make_change.new.self.core)
          (doing c.leave.new.self.core) (only n) refl did c.leave.ensures.moved
          ((λ j. is_open (record n { open_to = keeps.ends j }) (keeps.port j))
          ∙ c.requires.kept.apart);
      classes = c.leave.ensures.stays.classes ∙ c.in_ok-make_change.ensures.stays.classes
          ∙ c.requires.kept.classes;
    }
