use Rattle.do_effects.proofs.changing.Core.give_back_all.Goals as goal
use Rattle.std.proofs.Common.{◌∙◌, ◌∷◌, [], ap, arith, length, map, refl}
use Rattle.do_base.specs.names.Names.{ObjectName}
use Rattle.do_network.specs.Links.{sending}
use Rattle.do_part.specs.Left.{given_up}
use Rattle.do_streams.specs.Streamed.{outbox}
use Rattle.do_effects.proofs.Telling.{posts_end, posts_next, telling_begins, telling_next}
use Rattle.do_effects.proofs.Telling.{telling_room}

-- nothing was given back yet
pub loop-one-init : goal.loop-one-init
loop-one-init c =
    (telling_begins (length c.args.left.now) c.args.self.now c.requires, refl, refl, omega arith)

-- there is room for one more
pub post-requires : goal.post-requires
post-requires c =
    telling_room c.loop-one.one-index (length c.args.left.now) c.args.self.now
    c.loop-one.self c.loop-one.invariant.0 c.loop-one-test.true

-- one more was given back
pub loop-one-preserved : goal.loop-one-preserved
loop-one-preserved c =
    let before = c.loop-one.invariant.3 in
    let one = c.post.ensures.bare in (
      telling_next c.loop-one.one-index (length c.args.left.now) c.args.self.now c.loop-one.self
          (record { part = c.loop-one.self.part; streams = c.post.new.self })
          c.loop-one.invariant.0 c.loop-one-test.true refl c.post.ensures.room
          c.post.ensures.classes,
      posts_next (map given_up) c.args.left.now c.loop-one.one-index c.one-item.result
          (given_up c.one-item.result ∷ []) (outbox c.args.self.now.streams)
          (outbox c.loop-one.self.streams) (outbox c.post.new.self) c.loop-one-test.true
          c.one-item.is refl c.loop-one.invariant.1
          (c.post.ensures.sent
          ∙ ap (λ (o : ObjectName). sending (outbox c.loop-one.self.streams)
          (given_up (o, c.one-item.result.1))) c.oid.view_is),
      c.post.ensures.shown ∙ c.loop-one.invariant.2,
      omega (arith, before, one),
    )

-- each in one place
pub returns-clause-bare : goal.returns-clause-bare
returns-clause-bare c =
    let taken = c.loop-one.invariant.3 in
    let few = c.loop-one.invariant.0.few in
    omega (arith, taken, few)

-- all were given back
pub returns-clause-out : goal.returns-clause-out
returns-clause-out c =
    posts_end (map given_up) c.args.left.now c.loop-one.one-index
    (outbox c.args.self.now.streams) (outbox c.loop-one.self.streams) c.loop-one-test.false
    refl c.loop-one.invariant.1
