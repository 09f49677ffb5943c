use Rattle.do_agreement.proofs.laws.agreement.networks_open_in_agreement.Goals as goal
use Rattle.do_agreement.proofs.agreement.OpeningAgrees.{opening_agrees}

-- a network opens in agreement
pub returns : goal.returns
returns c = opening_agrees
