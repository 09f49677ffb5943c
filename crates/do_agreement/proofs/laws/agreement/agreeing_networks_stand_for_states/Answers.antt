use Rattle.do_agreement.proofs.laws.agreement.agreeing_networks_stand_for_states.Goals as goal
use Rattle.do_agreement.proofs.agreement.AgreesFits.{fits_so}

-- an agreeing network stands for its state
pub returns : goal.returns
returns c = fits_so
