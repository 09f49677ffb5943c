use Rattle.do_rules.specs.declared.take.ruling.Ruling.TheVariants as rulings
use Rattle.do_effects.proofs.changing.Core.raises.Goals as goal
use Rattle.std.proofs.Common.{Some, refl, sym, ap, arith, subst}
use Rattle.do_behave.specs.declared.invocation.Answer.TheVariants.{Raised}
use Rattle.do_part.specs.Answers.{answered_with}
use Rattle.do_rules.specs.Answering.{call_of}
use Rattle.do_effects.specs.{Doing.doing, Taking.taking_needs, Tidy.IsTidy}
use Rattle.do_effects.{specs.declared.changing.Core.Core, proofs.Alone.tidy_node}
use Rattle.do_effects.proofs.{Did.bounded_node, Judged.{is_quiet, on_quiet}, Taken.node_done}

-- the line is shown, and the call has its exception
pub returns-clause-done : goal.returns-clause-done
returns-clause-done c =
    let p = c.args.self.now.part.own in
    let b : Core = record { part = c.answer.new.self; streams = c.show.new.self } in
    node_done (doing c.args.self.now) (doing b) c.args.from c.args.item.now c.args.line
    (is_quiet c.requires.judged.0 c.args.from c.args.item.now
    (sym (ap on_quiet c.requires.judged.1)))
    (rulings.Raises c.args.call c.args.exc)
    (answered_with (call_of c.args.call) (Some (Raised c.args.exc)) p.node) c.requires.tidy
    (record { ends = refl; held = refl; asked = refl }) refl c.answer.ensures.own
    c.show.ensures.sent c.show.ensures.shown

-- a node with an answer counts nothing that it does not keep
pub returns-clause-tidy : goal.returns-clause-tidy
returns-clause-tidy c =
    let p = c.args.self.now.part.own in
    subst IsTidy (sym c.answer.ensures.own)
    (tidy_node p (answered_with (call_of c.args.call) (Some (Raised c.args.exc)) p.node)
    (record { ends = refl; held = refl; asked = refl }) c.requires.tidy)

-- nothing but the line is told
pub returns-clause-within : goal.returns-clause-within
returns-clause-within c =
    let p = c.args.self.now.part.own in
    let b : Core = record { part = c.answer.new.self; streams = c.show.new.self } in
    bounded_node (taking_needs p.node c.args.item.now (rulings.Raises c.args.call c.args.exc))
    c.args.self.now b (answered_with (call_of c.args.call) (Some (Raised c.args.exc)) p.node)
    c.answer.ensures.own (omega arith) (omega arith) (omega arith) (omega arith)
    c.show.ensures.classes
