use Rattle.do_net.proofs.lane.Lane.lose.Goals as goal
use Rattle.std.proofs.Common.{rules}
use Rattle.do_net.{specs.Lanes.carried_of, proofs.FirstFound.map_put}
use Rattle.do_net.specs.declared.lane.Kept.TheVariants.{Loss}

pub returns-clause-ok : goal.returns-clause-ok
returns-clause-ok c =
    let put = map_put carried_of c.self.inside.waiting.items c.args.after Loss in
    rw (c.in_ok-insert.ensures.items, ← c.self.view_is, put) (search rules)
