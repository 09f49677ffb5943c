use Rattle.do_rules.proofs.law.rulings_are_arrivals.Goals as goal
use Rattle.do_rules.proofs.Rulings.{ruling_is}

pub returns : goal.returns
returns c = ruling_is
