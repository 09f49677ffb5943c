use Rattle.do_streams.proofs.waiting.Waiting.show.Goals as goal
use Rattle.std.proofs.Common.{◌++◌, ◌-◌, ◌<◌, ◌∷◌, ◌∙◌, [], ap, arith, subst, sym}
use Rattle.std.proofs.lemmas.List.{length_push}
use Rattle.do_streams.specs.Waits.{Waits, framed, lined, oldest_first}
use Rattle.do_streams.proofs.WaitingCells.{line_behind, still_queued}

-- the line takes one place
pub invariant_of-self : goal.invariant_of-self
invariant_of-self c =
    let was = c.self.inside.cells in
    let some : 0 < c.self.inside.room = subst (λ (v : Waits). 0 < v.room) (sym c.self.view_is)
    c.requires in
    let free = c.self.invariant.free in
    let lines = c.self.invariant.lines in
    let spare = c.post.ensures.spare in
    let longer = length_push (lined was) c.args.line in
    still_queued c.post.new.self (framed was) (lined was ++ c.args.line ∷ [])
    (c.self.inside.room - 1) c.self.inside.bare c.self.inside.places
    (line_behind was c.post.new.self c.self.invariant.apart c.args.line c.post.ensures.queues)
    (omega (arith, some, free, spare)) (omega (arith, some, lines, longer))
    c.self.invariant.all

-- the frames are as before
pub returns-clause-frames : goal.returns-clause-frames
returns-clause-frames c =
    ap (oldest_first c.self.inside.oldest) (line_behind c.self.inside.cells c.post.new.self
    c.self.invariant.apart c.args.line c.post.ensures.queues).frames
    ∙ ap (λ (v : Waits). v.frames) c.self.view_is

-- and it is behind all lines
pub returns-clause-shown : goal.returns-clause-shown
returns-clause-shown c =
    (line_behind c.self.inside.cells c.post.new.self c.self.invariant.apart c.args.line
    c.post.ensures.queues).lines ∙ ap (λ (v : Waits). v.shown ++ c.args.line ∷ []) c.self.view_is
