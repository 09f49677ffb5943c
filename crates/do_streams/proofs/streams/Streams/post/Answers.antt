use Rattle.do_streams.proofs.streams.Streams.post.Goals as goal
use Rattle.std.{proofs.Common.{◌≡◌, ◌==◌, ◌∙◌, subst, sym, true}, specs.List.list_any}
use Rattle.do_streams.specs.{declared.end.Outgoing.Outgoing, Ordered.AllPlaced}
use Rattle.do_streams.specs.Streamed.{Streamed, outbox, streamed_of}
use Rattle.do_network.specs.Links.{sending}
use Rattle.do_streams.proofs.{FramesInOrder.posts, LinksRead.all_behind, WaitingFrames.sent_nowhere}

-- a frame is sent behind all that wait
pub returns-clause-sent : goal.returns-clause-sent
returns-clause-sent c = subst (λ (v : Streamed).
    outbox (streamed_of c.self.inside.ends c.self.inside.spelled c.post.new.self
    c.self.inside.classes)
    ≡ sending (outbox v) (record { to = c.args.to; frame = c.args.frame }))
    c.self.view_is
    (posts c.self.inside.ends c.self.inside.spelled c.self.inside.waiting c.post.new.self
    c.self.inside.classes (record { to = c.args.to; frame = c.args.frame })
    c.post.ensures.frames)

-- to a peer with which there is no link nothing is sent
pub returns-then-not-has-clause-sent : goal.returns-then-not-has-clause-sent
returns-then-not-has-clause-sent c = subst (λ (v : Streamed).
    outbox v ≡ sending (outbox v) (record { to = c.args.to; frame = c.args.frame }))
    c.self.view_is
    (sent_nowhere c.self.inside.ports c.self.inside.ends c.self.invariant.order
    c.self.inside.spelled c.self.inside.waiting c.self.inside.classes
    (record { to = c.args.to; frame = c.args.frame }) (sym c.has.ensures ∙ c.if-not-has.true))

-- it goes to one of the ports
pub invariant_of-self : goal.invariant_of-self
invariant_of-self c = record {
  known = c.self.invariant.known;
  order = c.self.invariant.order;
  placed = subst (AllPlaced c.self.inside.ports) (sym c.post.ensures.frames)
      (all_behind (λ (x : Outgoing). list_any (λ p. p == x.to) c.self.inside.ports ≡ true)
      c.self.inside.waiting.frames (record { to = c.args.to; frame = c.args.frame })
      c.self.invariant.placed (sym c.has.ensures ∙ c.if-not-has.false));
}
