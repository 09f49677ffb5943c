use Rattle.do_effects.proofs.changing.Core.settle_all.Goals as goal
use Rattle.std.proofs.Common.{◌∙◌, ap, arith, length, refl, subst, sym}
use Rattle.do_machine.specs.Objects.{object_at}
use Rattle.std.specs.Prelude.{fold}
use Rattle.do_network.specs.Links.{sending}
use Rattle.do_part.specs.Owned.{Owned}
use Rattle.do_streams.specs.Streamed.{outbox}
use Rattle.do_effects.specs.{Doing.Doing, Settled.{settle_post, settle_posts}, Tidy.IsTidy}
use Rattle.do_effects.proofs.{LendsSettled.settle_sent, Telling.{posts_end, posts_next}}
use Rattle.do_effects.proofs.Telling.{telling_begins, telling_ends, telling_next, telling_room}

-- no lender was told yet
pub loop-token-init : goal.loop-token-init
loop-token-init c = (
  telling_begins (length c.args.settled.now) c.args.self.now c.requires.room,
  refl,
  refl,
  omega arith,
)

-- telling leaves the node, which counts nothing that it does not keep
pub settle-requires-clause-tidy : goal.settle-requires-clause-tidy
settle-requires-clause-tidy c =
    subst (λ (p : Owned). IsTidy p.own) (sym c.loop-token.invariant.0.part) c.requires.tidy

-- there is room for one more
pub settle-requires-clause-room : goal.settle-requires-clause-room
settle-requires-clause-room c =
    telling_room c.loop-token.token-index (length c.args.settled.now) c.args.self.now
    c.loop-token.self c.loop-token.invariant.0 c.loop-token-test.true

-- one more lender was told
pub loop-token-preserved : goal.loop-token-preserved
loop-token-preserved c =
    let told = c.settle.ensures.settled (object_at 0 0) in
    let before = c.loop-token.invariant.3 in
    let one = c.settle.ensures.bare in
    let n = c.args.self.now.part.own.node in (
      telling_next c.loop-token.token-index (length c.args.settled.now) c.args.self.now
          c.loop-token.self c.settle.new.self c.loop-token.invariant.0 c.loop-token-test.true
          c.settle.ensures.part c.settle.ensures.within.waiting c.settle.ensures.within.classes,
      posts_next (settle_posts n) c.args.settled.now c.loop-token.token-index
          c.token-item.result (settle_post n c.token-item.result)
          (outbox c.args.self.now.streams) (outbox c.loop-token.self.streams)
          (outbox c.settle.new.self.streams) c.loop-token-test.true c.token-item.is refl
          c.loop-token.invariant.1
          (ap (λ (d : Doing). d.out) told
          ∙ settle_sent c.loop-token.self.part.own (outbox c.loop-token.self.streams)
          c.loop-token.self.streams.shown c.token-item.result (object_at 0 0)
          ∙ ap (λ (p : Owned). fold sending (outbox c.loop-token.self.streams)
          (settle_post p.own.node c.token-item.result)) c.loop-token.invariant.0.part),
      c.settle.ensures.shown ∙ c.loop-token.invariant.2,
      omega (arith, before, one),
    )

-- all lenders were told
pub returns-clause-out : goal.returns-clause-out
returns-clause-out c =
    posts_end (settle_posts c.args.self.now.part.own.node) c.args.settled.now
    c.loop-token.token-index (outbox c.args.self.now.streams) (outbox c.loop-token.self.streams)
    c.loop-token-test.false refl c.loop-token.invariant.1

-- each in one place
pub returns-clause-bare : goal.returns-clause-bare
returns-clause-bare c =
    let taken = c.loop-token.invariant.3 in
    let few = c.loop-token.invariant.0.few in
    omega (arith, taken, few)

-- and in the room of one
pub returns-clause-room : goal.returns-clause-room
returns-clause-room c =
    telling_ends c.loop-token.token-index (length c.args.settled.now) c.args.self.now
    c.loop-token.self c.loop-token.invariant.0
