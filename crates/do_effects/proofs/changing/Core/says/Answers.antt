use Rattle.do_effects.proofs.changing.Core.says.Goals as goal
use Rattle.std.proofs.Common.{[], ◌∷◌, refl, sym, arith, subst}
use Rattle.do_base.specs.declared.events.shown.Shown.TheVariants.{Say}
use Rattle.do_machine.specs.run.Changes.{goes_to}
use Rattle.do_streams.specs.Streamed.{outbox}
use Rattle.do_effects.specs.{Doing.{Doing, doing}, Plans.{plan_needs, top_changed}, Tidy.IsTidy}
use Rattle.do_effects.specs.declared.{changing.Core.Core, plan.Plan.TheVariants.Says}
use Rattle.do_effects.proofs.{Alone.tidy_node, Did.{bounded_node, does_shown}, Turned.turned}

-- the top invocation goes on, and the value is shown
pub returns-clause-done : goal.returns-clause-done
returns-clause-done c = λ r run.
    let d : Doing = doing c.args.self.now in
    let n = d.own.node in
    let a : Doing = record {
      own = c.goes_to.new.part.own;
      out = outbox c.show.new.self;
      shown = c.show.new.self.shown;
    } in
    does_shown a d (top_changed (goes_to c.args.pc) n) _ (Say c.args.value ∷ []) c.requires.tidy
    (record { ends = refl; held = refl; asked = refl }) (turned n r (goes_to c.args.pc) run)
    c.goes_to.ensures.own c.show.ensures.sent c.show.ensures.shown

-- a node whose top invocation goes on counts nothing that it does not keep
pub returns-clause-tidy : goal.returns-clause-tidy
returns-clause-tidy c =
    let p = c.args.self.now.part.own in
    subst IsTidy (sym c.goes_to.ensures.own)
    (tidy_node p (top_changed (goes_to c.args.pc) p.node)
    (record { ends = refl; held = refl; asked = refl }) c.requires.tidy)

-- nothing but the line is told
pub returns-clause-within : goal.returns-clause-within
returns-clause-within c =
    let n = c.args.self.now.part.own.node in
    let a : Core = record { part = c.goes_to.new.part; streams = c.show.new.self } in
    bounded_node (plan_needs (Says c.args.value c.args.pc)) c.args.self.now a
    (top_changed (goes_to c.args.pc) n) c.goes_to.ensures.own (omega arith) (omega arith)
    (omega arith) (omega arith) c.show.ensures.classes
