use Rattle.do_net.proofs.lanes.Lanes.to.Goals as goal
use Rattle.do_machine.proofs.FirstPlace.{found_none, get_first}
use Rattle.std.proofs.Common.{◌==◌, ◌∙◌, sym}

pub returns-in-Some : goal.returns-in-Some
returns-in-Some c =
    rw (← c.self.view_is) (c.get.ensures.value
    ∙ get_first (λ x. c.args.to == x.to) c.self.inside.lanes c.in-Some.at
    (sym c.in-Some.ensures.index))

pub returns-in-None : goal.returns-in-None
returns-in-None c =
    rw (← c.self.view_is) (sym (found_none (λ x. c.args.to == x.to) c.self.inside.lanes
    (sym c.in-None.ensures.index)))
