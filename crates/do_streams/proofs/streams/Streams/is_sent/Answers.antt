use Rattle.do_streams.proofs.streams.Streams.is_sent.Goals as goal
use Rattle.std.proofs.{Common.{◌≡◌, ◌∙◌, ◌++◌, None, ap, is_some, sym}, lemmas.Bool.false≢true}
use Rattle.do_streams.specs.Streamed.{Streamed, outbox_of, spelled_first}
use Rattle.do_streams.proofs.{Placed.none_of, WaitingFrames.none_waits}

-- what is spelled waits
pub returns-then-is_some : goal.returns-then-is_some
returns-then-is_some c = (
  λ no. absurd (false≢true no),
  λ empty.
      let i = c.self.inside in
      let none = none_waits i.ports i.ends c.self.invariant.order i.spelled i.waiting.frames
      c.self.invariant.placed (ap (λ (v : Streamed). v.frames) c.self.view_is ∙ empty) in
      absurd (false≢true (sym (ap is_some none.0) ∙ sym c.is_some.ensures ∙ c.if-is_some.true)),
)

-- without it what waits is in the cells, or taken out of one
pub returns : goal.returns
returns c = (
  λ yes.
      let i = c.self.inside in
      let none : i.spelled ≡ None
      = none_of i.spelled (sym c.is_some.ensures ∙ c.if-is_some.false) in
      sym (ap (λ (v : Streamed). v.frames) c.self.view_is)
      ∙ (λ j. spelled_first (none j) ++ (outbox_of i.ends (c.has_no_frame.ensures.0 yes j)).sent),
  λ empty.
      let i = c.self.inside in
      let none = none_waits i.ports i.ends c.self.invariant.order i.spelled i.waiting.frames
      c.self.invariant.placed (ap (λ (v : Streamed). v.frames) c.self.view_is ∙ empty) in
      c.has_no_frame.ensures.1 none.1,
)
