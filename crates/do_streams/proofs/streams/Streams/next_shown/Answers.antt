use Rattle.do_streams.proofs.streams.Streams.next_shown.Goals as goal
use Rattle.std.proofs.Common.{◌∙◌, ◌++◌, ap, subst, sym}
use Rattle.do_streams.specs.{Ordered.AllPlaced, Streamed.{outbox, outbox_of, spelled_first}}

-- the line leaves the frames
pub returns-clause-sent : goal.returns-clause-sent
returns-clause-sent c =
    (λ j. record {
      links = (outbox_of c.self.inside.ends (c.take_line.ensures.frames j)).links;
      sent = spelled_first c.self.inside.spelled
          ++ (outbox_of c.self.inside.ends (c.take_line.ensures.frames j)).sent;
    })
    ∙ ap outbox c.self.view_is

-- the frames go to ports as before
pub invariant_of-self : goal.invariant_of-self
invariant_of-self c = record {
  known = c.self.invariant.known;
  order = c.self.invariant.order;
  placed = subst (AllPlaced c.self.inside.ports) (sym c.take_line.ensures.frames)
      c.self.invariant.placed;
}
