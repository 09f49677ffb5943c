use Rattle.do_streams.proofs.waiting.Waiting.post.Goals as goal
use Rattle.std.proofs.Common.{◌++◌, ◌-◌, ◌<◌, ◌∷◌, ◌∙◌, [], ap, arith, subst, sym}
use Rattle.std.proofs.lemmas.List.{length_push}
use Rattle.do_streams.specs.Waits.{Waits, framed, lined, oldest_first}
use Rattle.do_streams.proofs.WaitingCells.{behind_oldest, frame_behind, still_queued}

-- the frame takes one place
pub invariant_of-self : goal.invariant_of-self
invariant_of-self c =
    let was = c.self.inside.cells in
    let some : 0 < c.self.inside.room = subst (λ (v : Waits). 0 < v.room) (sym c.self.view_is)
    c.requires in
    let free = c.self.invariant.free in
    let lines = c.self.invariant.lines in
    let all = c.self.invariant.all in
    let spare = c.post.ensures.spare in
    let longer = length_push (framed was) c.args.frame in
    still_queued c.post.new.self (framed was ++ c.args.frame ∷ []) (lined was)
    (c.self.inside.room - 1) (c.self.inside.bare - 1) c.self.inside.places
    (frame_behind was c.post.new.self c.self.invariant.apart c.args.frame c.post.ensures.queues)
    (omega (arith, some, free, spare)) (omega (arith, some, lines))
    (omega (arith, some, lines, all, longer))

-- it is behind all that wait
pub returns-clause-frames : goal.returns-clause-frames
returns-clause-frames c =
    ap (oldest_first c.self.inside.oldest) (frame_behind c.self.inside.cells c.post.new.self
    c.self.invariant.apart c.args.frame c.post.ensures.queues).frames
    ∙ behind_oldest c.self.inside.oldest (framed c.self.inside.cells) c.args.frame
    ∙ ap (λ (v : Waits). v.frames ++ c.args.frame ∷ []) c.self.view_is

-- and the lines are as before
pub returns-clause-shown : goal.returns-clause-shown
returns-clause-shown c =
    (frame_behind c.self.inside.cells c.post.new.self c.self.invariant.apart c.args.frame
    c.post.ensures.queues).lines ∙ ap (λ (v : Waits). v.shown) c.self.view_is
