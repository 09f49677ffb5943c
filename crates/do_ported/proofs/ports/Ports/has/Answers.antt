use Rattle.do_ported.proofs.ports.Ports.has.Goals as goal
use Rattle.std.proofs.Common.{◌∙◌, ap, is_some}
use Rattle.do_ported.proofs.FirstOfPorts.{place_is_among}

-- a port is one of them just where it has a place
pub returns : goal.returns
returns c =
    c.is_some.ensures ∙ ap is_some c.place.ensures.index
    ∙ place_is_among c.args.port c.args.self.now
