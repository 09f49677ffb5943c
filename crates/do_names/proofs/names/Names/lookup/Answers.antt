use Rattle.do_names.proofs.names.Names.lookup.Goals as goal
use Rattle.std.proofs.Common.{◌∙◌}
use Rattle.do_names.proofs.IsTold.{port_told}

pub returns-clause-meaning : goal.returns-clause-meaning
returns-clause-meaning c =
    λ h is. c.port_of.ensures ∙ port_told h c.args.self.now c.args.name.now is
