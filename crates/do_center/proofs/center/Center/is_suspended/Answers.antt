use Rattle.do_center.proofs.center.Center.is_suspended.Goals as goal
use Rattle.std.proofs.Common.{◌∙◌}
use Rattle.do_center.proofs.SuspendedTold.{core_suspended}

pub returns-clause-meaning : goal.returns-clause-meaning
returns-clause-meaning c h is =
    c.contains.ensures
    ∙ core_suspended h (c.self.inside.seats, c.self.inside.suspended) c.args.observer
    (c.self.view_is ∙ is)
