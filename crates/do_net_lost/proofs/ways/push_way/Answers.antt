use Rattle.do_net_lost.proofs.ways.push_way.Goals as goal
use Rattle.std.proofs.Common.{List, length, subst, sym}
use Rattle.do_class.specs.Class.{Class}
use Rattle.do_streams.specs.Reading.{AreKnown}

-- the names are of the network's classes
pub push_lane-requires : goal.push_lane-requires
push_lane-requires g c =
    subst (λ (t : List Class). AreKnown (length t) c.in_ok-names.names) (sym c.classes.ensures)
    (c.in_ok-names.ensures.known (g.S.Acts.Behaviour.act c.args.net.now.acts) c.requires.stands
    c.requires.whole)
