use Rattle.do_rules.specs.declared.take.ruling.Ruling.TheVariants as rulings
use Rattle.do_effects.proofs.changing.Core.stays.Goals as goal
use Rattle.std.proofs.Common.{refl, sym, ap}
use Rattle.do_effects.specs.{Doing.doing, declared.changing.Core.Core}
use Rattle.do_effects.proofs.{Judged.{is_quiet, on_quiet}, Taken.node_done}

-- the line is shown, and no more
pub returns-clause-done : goal.returns-clause-done
returns-clause-done c =
    let b : Core = record { part = c.args.self.now.part; streams = c.show.new.self } in
    node_done (doing c.args.self.now) (doing b) c.args.from c.args.item.now c.args.line
    (is_quiet c.requires.judged.0 c.args.from c.args.item.now
    (sym (ap on_quiet c.requires.judged.1))) rulings.Stays c.args.self.now.part.own.node
    c.requires.tidy (record { ends = refl; held = refl; asked = refl }) refl refl
    c.show.ensures.sent c.show.ensures.shown
