use Rattle.do_local.proofs.commit.moving.Goals as goal
use Rattle.std.proofs.Common.{ap, ◌∙◌}
use Rattle.do_machine.specs.Commit.{commit}
use Rattle.do_local.specs.Sending.{sending}

pub returns-clause-state : goal.returns-clause-state
returns-clause-state c =
    c.in_ok-after.ensures
    ∙ ap (λ n. commit c.args.port (sending c.args.effect.sent n) c.args.state.now)
    c.in_ok-node.ensures
