use Rattle.do_net.proofs.lanes.Lanes.advance.Goals as goal
use Rattle.std.proofs.Common.{sym}
use Rattle.do_ported.proofs.ByHalves.{rising_set}
use Rattle.do_net.proofs.ChannelPlaces.{channels_advance, channels_missing}

pub returns-in-Some : goal.returns-in-Some
returns-in-Some c =
    rw (← c.self.view_is) (channels_advance c.args.to c.self.inside.lanes c.in-Some.at
    c.at_mut.result.now c.advance.new.self c.advance.result (sym c.in-Some.ensures.index)
    c.at_mut.ensures.value c.advance.ensures.kept)

pub returns-in-None : goal.returns-in-None
returns-in-None c =
    rw (← c.self.view_is) (channels_missing c.args.to c.self.inside.lanes
    (sym c.in-None.ensures.index))

-- the lanes stay by rising peer
pub invariant_of-self : goal.invariant_of-self
invariant_of-self c =
    rising_set (λ x. x.to) c.self.inside.lanes c.in-Some.at c.at_mut.result.now c.advance.new.self
    c.self.invariant c.at_mut.ensures.value c.advance.ensures.to
