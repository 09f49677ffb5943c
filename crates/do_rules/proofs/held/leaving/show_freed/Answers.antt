use Rattle.do_rules.proofs.held.leaving.show_freed.Goals as goal
use Rattle.std.proofs.Common.{◌∙◌}
use Rattle.do_rules.proofs.Left.{freed_is}

pub returns : goal.returns
returns c =
    freed_is c.args.port c.args.before.now c.args.heap.now _ _ _
    (c.in_ok-left.ensures ∙ c.in_ok-names.ensures) c.in_ok-show_gone.ensures
