use Rattle.do_effects.proofs.changing.Core.refuses.Goals as goal
use Rattle.std.proofs.Common.{refl, sym, ◌∙◌, ap}
use Rattle.do_rules.specs.declared.take.ruling.Ruling.TheVariants.{Refuses}
use Rattle.do_effects.specs.{Doing.doing, Taking.{on_message, takes}, declared.changing.Core.Core}
use Rattle.do_effects.proofs.{Judged.has_message, Taken.{back_done, shown_done}}

-- what is refused is a message
pub gain-requires-clause-message : goal.gain-requires-clause-message
gain-requires-clause-message c =
    has_message c.requires.judged.0 c.args.from c.args.item.now
    (sym (ap on_message c.requires.judged.1))

-- a call that is refused goes back as an exception
pub returns-in-Call-clause-ok : goal.returns-in-Call-clause-ok
returns-in-Call-clause-ok c =
    let b : Core = record { part = c.gain.new.self.part; streams = c.post.new.self } in
    back_done (doing c.args.self.now) (doing c.gain.new.self) (doing b) c.args.from
    c.args.item.now c.args.line c.args.copies c.in_ok-gain.ensures.ok c.in-Call.peer
    c.in-Call.number c.args.exc c.in_ok-gain.ensures.tidy refl c.post.ensures.sent
    c.post.ensures.shown
    ∙ ap (λ x. takes c.args.from c.args.item.now c.args.line
    (Refuses c.args.copies x c.args.exc) (doing c.args.self.now)) (sym c.in-Call.is)

-- of any other message the exception is shown
pub returns-in_default-clause-ok : goal.returns-in_default-clause-ok
returns-in_default-clause-ok c =
    let b : Core = record { part = c.gain.new.self.part; streams = c.show.new.self } in
    shown_done (doing c.args.self.now) (doing c.gain.new.self) (doing b) c.args.from
    c.args.item.now c.args.line c.args.copies c.in_ok-gain.ensures.ok c.args.reason c.args.exc
    c.in_default.not-Call refl c.show.ensures.sent c.show.ensures.shown
