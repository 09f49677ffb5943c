use Rattle.do_network.proofs.laws.counts.unknown_objects_have_no_class.Goals as goal
use Rattle.do_network.{specs.Site.site_move, proofs.ClassesKept.unknown_class}

pub returns : goal.returns
returns c p e o unknown = unknown_class (site_move p e).own.node _ o unknown
