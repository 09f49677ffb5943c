use Rattle.do_effects.proofs.changing.Core.ends_ask.Goals as goal
use Rattle.std.proofs.Common.{sym, ◌∙◌, ap, arith, length, subst}
use Rattle.do_machine.specs.lend.Asking.{settling}
use Rattle.do_network.specs.Own.{Own}
use Rattle.do_part.specs.Owned.{Owned}
use Rattle.do_effects.specs.{Doing.{Doing, does, doing}, Tidy.IsTidy}
use Rattle.do_effects.proofs.AsksEnded.{ended_asked, ended_heap, ended_held, ended_takes}
use Rattle.do_effects.proofs.AsksEnded.{ended_tidy, follow_asked}

-- what is granted was asked for
pub end_ask-requires-clause-asked : goal.end_ask-requires-clause-asked
end_ask-requires-clause-asked c = λ granted.
    follow_asked c.args.self.now.part.own.node c.args.from c.args.item.now c.args.wanted
    (sym c.is_granted.ensures ∙ granted) c.requires.can

-- a node whose ask is over counts nothing that it does not keep
pub settle-requires-clause-tidy : goal.settle-requires-clause-tidy
settle-requires-clause-tidy c =
    subst IsTidy (sym c.end_ask.ensures)
    (ended_tidy c.is_granted.result c.args.wanted c.args.self.now.part.own c.requires.tidy)

-- the line is shown, the ask is over, and its lender is told
pub returns-clause-done : goal.returns-clause-done
returns-clause-done c =
    let d : Doing = doing c.args.self.now in
    let w = c.args.wanted in
    c.settle.ensures.settled w.object
    ∙ (λ j. does (record {
      own = c.end_ask.ensures j;
      out = c.show.ensures.sent j;
      shown = c.show.ensures.shown j;
    }) (settling w (c.end_ask.ensures j).node))
    ∙ ended_takes d c.args.from c.args.line w c.requires.judged.0 c.args.item.now
    c.requires.judged.1 c.is_granted.result c.is_granted.ensures

-- telling the lender leaves the node, which counts nothing that it does not keep
pub returns-clause-tidy : goal.returns-clause-tidy
returns-clause-tidy c =
    subst IsTidy (ap (λ p. p.own) (sym c.settle.ensures.part))
    (subst IsTidy (sym c.end_ask.ensures)
    (ended_tidy c.is_granted.result c.args.wanted c.args.self.now.part.own c.requires.tidy))

-- at most one more object is held, and two more things are told
pub returns-clause-within : goal.returns-clause-within
returns-clause-within c =
    let w = c.args.wanted in
    let p = c.args.self.now.part.own in
    let heap = ap (λ (q : Own). length q.node.heap) c.end_ask.ensures in
    let held = ap (λ (q : Own). length q.node.held) c.end_ask.ensures in
    let asked = ap (λ (q : Own). length q.node.asked) c.end_ask.ensures in
    let fewer = ended_asked c.is_granted.result w p in
    let most = ended_held c.is_granted.result w p in
    let stored = ap length (ended_heap c.is_granted.result w p) in
    let part = c.settle.ensures.part in
    let later = ap (λ (q : Owned). length q.own.node.heap) part in
    let kept = ap (λ (q : Owned). length q.own.node.held) part in
    let left = ap (λ (q : Owned). length q.own.node.asked) part in
    let within = c.settle.ensures.within in
    record {
      waiting = omega arith;
      stored = omega arith;
      held = omega arith;
      asked = omega arith;
      classes = within.classes ∙ c.show.ensures.classes;
    }
