use Rattle.do_effects.proofs.changing.Core.replies.Goals as goal
use Rattle.std.proofs.Common.{sym, ◌∙◌, ap, arith}
use Rattle.do_effects.specs.{Doing.doing, declared.changing.Core.Core}
use Rattle.do_effects.proofs.{Judged.{back_keeps, is_quiet, on_quiet}, Taken.replies_done}

-- an item that goes back gives nothing up
pub send-requires-clause-keeps : goal.send-requires-clause-keeps
send-requires-clause-keeps c =
    back_keeps c.requires.judged.0 c.args.from c.args.item.now c.args.answer
    c.requires.judged.1

-- the line is shown and the item is sent, as its ruling says
pub returns-clause-done : goal.returns-clause-done
returns-clause-done c =
    let d = doing c.args.self.now in
    let a : Core = record { part = c.args.self.now.part; streams = c.show.new.self } in
    replies_done d (doing c.send.new.self) c.args.from c.args.item.now c.args.line
    (is_quiet c.requires.judged.0 c.args.from c.args.item.now
    (sym (ap on_quiet c.requires.judged.1))) (doing a) c.args.answer c.requires.can.1
    (λ j. record { own = d.own; out = c.show.ensures.sent j; shown = c.show.ensures.shown j })
    c.send.ensures.sent

-- no more is told than the line and what sending takes
pub returns-clause-within : goal.returns-clause-within
returns-clause-within c =
    let within = c.send.ensures.within in
    record {
      waiting = omega arith;
      stored = omega arith;
      held = omega arith;
      asked = omega arith;
      classes = within.classes ∙ c.show.ensures.classes;
    }
