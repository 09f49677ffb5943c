use Rattle.do_effects.proofs.changing.Core.close.Goals as goal
use Rattle.std.proofs.Common.{◌≡◌, ◌∙◌, ap, arith, length, subst, sym, List}
use Rattle.do_base.specs.names.Names.{TokenName}
use Rattle.std.specs.Prelude.{fold}
use Rattle.do_network.specs.Links.{sending}
use Rattle.do_effects.specs.Settled.{settle_posts}
use Rattle.do_machine.specs.{Effect.only, ends.Closing.parted}
use Rattle.do_network.specs.Own.{Own}
use Rattle.do_part.specs.Owned.{Owned}
use Rattle.do_streams.specs.Streamed.{outbox}
use Rattle.do_effects.{specs.Tidy.IsTidy, proofs.{LendsSettled.close_told, ObjectsLeft.few_settled}}
use Rattle.do_effects.proofs.{Paid.parted_owes, TidyCounts.counted_is_tidy}

-- a node that is parted counts nothing that it does not keep
pub settle_all-requires-clause-tidy : goal.settle_all-requires-clause-tidy
settle_all-requires-clause-tidy c =
    subst IsTidy (sym c.close.ensures.own)
    (counted_is_tidy c.args.self.now.part.own
    (only (parted c.args.peer c.args.self.now.part.own.node)))

-- no more lenders are told than objects were asked for
pub settle_all-requires-clause-room : goal.settle_all-requires-clause-room
settle_all-requires-clause-room c =
    let few = few_settled c.args.peer c.args.self.now.part.own.node in
    let many = ap (λ (tokens : List TokenName). length tokens)
    (c.as_slice.ensures.value ∙ c.close.ensures.settled) in
    let room = c.requires.room in
    let post = c.post.ensures.room in
    omega (arith, few, many, room, post)

-- the node is parted from the peer, which is told, and then the lenders are
pub returns-clause-closed : goal.returns-clause-closed
returns-clause-closed c =
    close_told c.args.self.now.part.own c.settle_all.new.self.part.own
    (outbox c.args.self.now.streams) (outbox c.post.new.self)
    (outbox c.settle_all.new.self.streams) c.args.self.now.streams.shown
    c.settle_all.new.self.streams.shown c.args.peer c.as_slice.result.now
    (ap (λ (p : Owned). p.own) c.settle_all.ensures.part ∙ c.close.ensures.own)
    c.post.ensures.sent (c.as_slice.ensures.value ∙ c.close.ensures.settled)
    (subst (λ (p : Owned). outbox c.settle_all.new.self.streams
    ≡ fold sending (outbox c.post.new.self) (settle_posts p.own.node c.as_slice.result.now))
    (sym c.settle_all.ensures.part) c.settle_all.ensures.out)
    (c.settle_all.ensures.shown ∙ c.post.ensures.shown)

-- telling the lenders leaves the node as it was parted
pub returns-clause-node : goal.returns-clause-node
returns-clause-node c =
    ap (λ (p : Owned). p.own.node) c.settle_all.ensures.part
    ∙ ap (λ (p : Own). p.node) c.close.ensures.own

-- and so it counts nothing that it does not keep
pub returns-clause-tidy : goal.returns-clause-tidy
returns-clause-tidy c =
    subst IsTidy
    (sym (ap (λ (p : Owned). p.own) c.settle_all.ensures.part ∙ c.close.ensures.own))
    (counted_is_tidy c.args.self.now.part.own
    (only (parted c.args.peer c.args.self.now.part.own.node)))

-- the peer is told once, and no more lenders than objects were asked for
pub returns-clause-room : goal.returns-clause-room
returns-clause-room c =
    let few = few_settled c.args.peer c.args.self.now.part.own.node in
    let many = ap (λ (tokens : List TokenName). length tokens)
    (c.as_slice.ensures.value ∙ c.close.ensures.settled) in
    let post = c.post.ensures.room in
    let tell = c.settle_all.ensures.room in
    omega (arith, few, many, post, tell)

-- which it owed: the end that is closed, and each ask that is over
pub returns-clause-pays : goal.returns-clause-pays
returns-clause-pays c =
    let node = ap (λ (p : Owned). p.own.node) c.settle_all.ensures.part
    ∙ ap (λ (p : Own). p.node) c.close.ensures.own in
    let owes = parted_owes c.args.peer c.args.self.now.part.own.node
    c.settle_all.new.self.part.own.node node c.requires.open in
    let many = ap (λ (tokens : List TokenName). length tokens)
    (c.as_slice.ensures.value ∙ c.close.ensures.settled) in
    let post = c.post.ensures.bare in
    let tell = c.settle_all.ensures.bare in
    omega (arith, owes, many, post, tell)
