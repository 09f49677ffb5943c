use Rattle.do_net.proofs.lanes.Lanes.carry.Goals as goal
use Rattle.do_machine.proofs.FirstPlace.{change_first_none}
use Rattle.std.proofs.Common.{rules, sym, ◌==◌}
use Rattle.do_net.specs.Lanes.{laden}
use Rattle.do_ported.proofs.ByHalves.{rising_set}

-- where there is no lane nothing changes
pub returns-in_default : goal.returns-in_default
returns-in_default c =
    rw (← c.self.view_is) (sym (change_first_none (λ x. c.args.wire.now.to == x.to)
    (laden c.args.wire.now.bytes) c.self.inside.lanes (search rules)))

-- the lanes stay by rising peer
pub invariant_of-self : goal.invariant_of-self
invariant_of-self c =
    rising_set (λ x. x.to) c.self.inside.lanes c.in-Some.at c.at_mut.result.now c.carry.new.self
    c.self.invariant c.at_mut.ensures.value c.carry.ensures.to
