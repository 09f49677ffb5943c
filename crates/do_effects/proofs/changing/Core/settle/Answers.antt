use Rattle.do_effects.proofs.changing.Core.settle.Goals as goal
use Rattle.std.proofs.Common.{◌≡◌, ◌∙◌, arith, refl, subst, sym}
use Rattle.do_base.specs.names.Names.{TokenName}
use Rattle.do_machine.specs.lend.Asking.{settling, wanted}
use Rattle.do_streams.specs.Streamed.{outbox}
use Rattle.do_effects.specs.Doing.{does, doing}
use Rattle.do_effects.proofs.{LendsSettled.{told_closed, told_open}, Within.told_within}

-- over a closed end nothing is told
pub returns-then-not-is_open-clause-settled : goal.returns-then-not-is_open-clause-settled
returns-then-not-is_open-clause-settled c = λ x.
    subst (λ (token : TokenName). doing c.args.self.now ≡ does (doing c.args.self.now)
    (settling (wanted x token.lender token.number) c.args.self.now.part.own.node))
    c.token.view_is
    (told_closed c.args.self.now.part.own (outbox c.args.self.now.streams)
    c.args.self.now.streams.shown
    (record { lender = c.token.inside.lender; number = c.token.inside.number }) x
    c.requires.tidy (sym c.is_open.ensures ∙ c.if-not-is_open.true))

-- over an open end the lender is told
pub returns-clause-settled : goal.returns-clause-settled
returns-clause-settled c = λ x.
    subst (λ (token : TokenName).
    doing (record { part = c.args.self.now.part; streams = c.post.new.self })
    ≡ does (doing c.args.self.now)
    (settling (wanted x token.lender token.number) c.args.self.now.part.own.node))
    c.token.view_is
    (told_open c.args.self.now.part.own (outbox c.args.self.now.streams)
    (outbox c.post.new.self) c.args.self.now.streams.shown c.post.new.self.shown
    (record { lender = c.token.inside.lender; number = c.token.inside.number }) x
    c.requires.tidy (sym c.is_open.ensures ∙ c.if-not-is_open.false) c.post.ensures.sent
    c.post.ensures.shown)

-- over an open end one thing is told
pub returns-clause-within : goal.returns-clause-within
returns-clause-within c =
    told_within 1 c.args.self.now c.post.new.self c.post.ensures.room c.post.ensures.classes

-- over a closed one nothing changes
pub returns-then-not-is_open-clause-within : goal.returns-then-not-is_open-clause-within
returns-then-not-is_open-clause-within c =
    told_within 1 c.args.self.now c.args.self.now.streams (omega arith) refl
