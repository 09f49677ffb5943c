use Rattle.do_effects.proofs.changing.Core.closes.Goals as goal
use Rattle.std.proofs.Common.{sym, ◌∙◌, ap, arith, length}
use Rattle.do_machine.specs.declared.node.Node.{Node}
use Rattle.do_effects.{specs.{Doing.doing, declared.changing.Core.Core}, proofs.Judged.is_quiet}
use Rattle.do_effects.proofs.{Judged.on_quiet, Taken.{closes_done, parted_asked, parted_held}}

-- the line is shown, and the end is closed
pub returns-clause-done : goal.returns-clause-done
returns-clause-done c =
    let d = doing c.args.self.now in
    let a : Core = record { part = c.args.self.now.part; streams = c.show.new.self } in
    closes_done d (doing c.close.new.self) c.args.from c.args.item.now c.args.line
    (is_quiet c.requires.can.judged.0 c.args.from c.args.item.now
    (sym (ap on_quiet c.requires.can.judged.1))) (doing a)
    (λ j. record { own = d.own; out = c.show.ensures.sent j; shown = c.show.ensures.shown j })
    c.close.ensures.closed

-- a parted node stores the same objects and holds no more
pub returns-clause-within : goal.returns-clause-within
returns-clause-within c =
    let n = c.args.self.now.part.own.node in
    let heap = ap (λ (m : Node). length m.heap) c.close.ensures.node in
    let held = ap (λ (m : Node). length m.held) c.close.ensures.node in
    let most = parted_held c.args.from n in
    let asked = ap (λ (m : Node). length m.asked) c.close.ensures.node in
    let fewer = parted_asked c.args.from n in
    record {
      waiting = omega arith;
      stored = omega arith;
      held = omega arith;
      asked = omega arith;
      classes = c.close.ensures.classes ∙ c.show.ensures.classes;
    }

-- the line takes no place from frames
pub returns-clause-pays : goal.returns-clause-pays
returns-clause-pays c =
    let pays = c.close.ensures.pays in
    let shown = c.show.ensures.bare in
    omega (arith, pays, shown)
