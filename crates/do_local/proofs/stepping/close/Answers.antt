use Rattle.do_local.proofs.stepping.close.Goals as goal
use Rattle.std.proofs.Common.{◌≡◌, true, Some, rules}
use Rattle.do_machine.specs.State.{is_open, node}
use Rattle.do_local.proofs.Moves.{close_moves}

pub returns : goal.returns
returns c =
    let found : node c.args.state.now c.args.port ≡ Some c.in-Some.node.now = search rules in
    let opened : is_open c.in-Some.node.now c.args.peer ≡ true = search rules in
    close_moves c.args.port c.args.peer c.args.state.now c.in-Some.node.now c.in_ok-effect.effect
    c.in_ok-moved.field-0 found opened c.in_ok-effect.ensures c.in_ok-moved.ensures
