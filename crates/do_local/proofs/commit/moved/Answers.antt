use Rattle.do_local.proofs.commit.moved.Goals as goal
use Rattle.std.proofs.Common.{◌∙◌}
use Rattle.do_local.proofs.Moves.{moved_is}

pub returns : goal.returns
returns c =
    c.showed.ensures
    ∙ moved_is c.args.port c.args.state.now _ _ c.args.effect _ _ _ _ _
    (c.get.ensures ∙ c.in_ok-first.ensures.node) c.in_ok-first.ensures.shown
    c.in_ok-first.ensures.state c.in_ok-leaves.ensures c.in_ok-last.ensures.shown
    c.in_ok-last.ensures.state c.in_ok-append.ensures.ok
